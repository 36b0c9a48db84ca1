-- Laws on lines and reports.
pub mod LineLaws
pub mod ReportLaws
pub mod ExampleLines
