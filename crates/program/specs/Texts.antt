-- A line's text as the code puts it together. No rule of the language is stated here.
use Rattle.std.specs.Prelude.{ℕ, ◌+◌, ◌≡◌, List, ◌++◌, take, length}
use Rattle.program.specs.declared.line.Text.{Text}

-- The bytes so far.
abbrev pub text_in : Text → List ℕ
text_in t = take t.length t.bytes

-- The second text is the first with these bytes behind it.
pub record Appended (before : Text) (bytes : List ℕ) (after : Text) : Type 0 where
  pub ends : after.length ≡ before.length + length bytes
  pub holds : text_in after ≡ text_in before ++ bytes
