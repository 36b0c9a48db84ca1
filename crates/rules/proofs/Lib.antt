-- Laws on places and values.
pub mod ValueLaws
pub mod PlaceLaws
pub mod MoveLaws
pub mod WriteLaws
pub mod OwnLaws
pub mod LentLaws
