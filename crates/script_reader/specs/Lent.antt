-- A reader, which is the lent bytes and the next offset: where it begins, where it goes on, and what it reads from there. No rule of the
-- language is stated here.
use Rattle.std.specs.Prelude.{ℕ, ◌+◌, ◌≤◌, ◌≡◌, Bool, true, false, List, [], ◌∷◌, length, drop, leb, ltb}
use Rattle.std.specs.Prelude as prelude
use Rattle.std.specs.Borrow.{Bor}
use Rattle.syntax.specs.Result.{Result, ok, err, Refusal, pick}
use Rattle.syntax.specs.Refusals.{refusal_of}
use Rattle.syntax.specs.Limits.{Limits, in_ranges, row_numbers}
use Rattle.syntax.specs.Script.{Term}
use Rattle.syntax.specs.Kinds.{newest}
use Rattle.syntax.specs.Layout.{lay, in_rows}
use Rattle.syntax.specs.Reader.{Cursor}
use Rattle.syntax.specs.Within.{Under}
use Rattle.syntax.specs.ByteParts.{Got, Fine, Refused, got_of, RowsAfter, read_term, on_number, mark_number, version_at, lead_judged}
use Rattle.syntax.specs.declared.refusals.Refusal as answer
use Rattle.syntax.specs.declared.progress.Progress.{Progress}
use Rattle.script_reader.specs.declared.reader.Reader.{Reader}
use Rattle.script_reader.specs.declared.script.Script.{Script}

abbrev pub begun : Bor (List ℕ) → Reader
begun script = record { script = script; at = 0 }

-- The next offset after an answer: past what was read, and after a refusal the same.
unfoldable pub reached : ℕ → Got → ℕ
reached at (Fine next terms boxes) = next
reached at (Refused n p) = at

abbrev pub advanced : Reader → Got → Reader
advanced reader got = record { script = reader.script; at = reached reader.at got }

-- An offset in a script that is no longer than one may be.
abbrev pub Inside : List ℕ → ℕ → Type 0
Inside bytes at = (at ≤ length bytes) × (length bytes ≤ 32768)

-- Rows of a set in its ranges.
abbrev pub RowsFor : Limits → List ℕ → Type 0
RowsFor l rows = (in_ranges l ≡ true) × (length rows ≡ row_numbers l)

-- The answer for mark and version v: no term is met in them, and the version is in place of the boxes.
unfoldable pub lead_got : ℕ → Result Refusal ℕ → Got
lead_got v (ok next) = Fine next 0 v
lead_got v (err (n, p)) = Refused n p

-- The code's answers: a refusal is its number and place.
abbrev pub told_got : {A : Type 0} → (A → Got) → prelude.Result A answer.Refusal → Got
told_got f (prelude.Ok a) = f a
told_got f (prelude.Err r) = Refused (refusal_of r).0 (refusal_of r).1

-- That for mark and version, which end at an offset.
abbrev pub version_got : ℕ → prelude.Result ℕ answer.Refusal → Got
version_got next r = told_got (λ v. Fine next 0 v) r

-- That for the outermost term of version v, with the version in place of the boxes, which no caller asks for.
abbrev pub progress_got : ℕ → prelude.Result Progress answer.Refusal → Got
progress_got v r = told_got (λ (p : Progress). Fine p.at p.terms v) r

-- That for what is left after an answer.
abbrev pub end_got : Got → prelude.Result (Unit {0}) answer.Refusal → Got
end_got g r = told_got (λ u. g) r

-- That for the outermost term and for a whole script, which end at an offset.
abbrev pub script_got : ℕ → prelude.Result Script answer.Refusal → Got
script_got next r = told_got (λ (s : Script). Fine next s.terms s.version) r

-- The bytes of the mark from offset at on, and what follows where they are these.
unfoldable pub marked : List ℕ → List ℕ → ℕ → Result Refusal ℕ → Result Refusal ℕ
marked [] t at go = go
marked (b ∷ bs) t at go = on_number (mark_number t at b) at (marked bs t (at + 1) go)

abbrev pub LeadRead : List ℕ → ℕ → Got → Type 0
LeadRead bytes at r = (r ≡ lead_got (version_at bytes (at + 3)) (lead_judged newest bytes at)) × Under 256 bytes

-- The bytes from an offset on.
abbrev pub remaining : List ℕ → ℕ → List ℕ
remaining bytes at = drop at bytes

-- The outermost term from an offset on.
abbrev pub read_outermost : Limits → ℕ → List ℕ → ℕ → Result Refusal (Term × Cursor)
read_outermost l v bytes at = read_term l v l.levels true (remaining bytes at) at 0 0

-- An answer with the version in place of the boxes, which no caller asks for.
unfoldable pub with_version : ℕ → Got → Got
with_version v (Refused n p) = Refused n p
with_version v (Fine next terms boxes) = Fine next terms v

-- The answer for the outermost term of version v, and the rows that it fills; 11 where the version is not known.
unfoldable pub TermRead : Bool → Limits → ℕ → List ℕ → ℕ → List ℕ → List ℕ → Got → Type 0
TermRead true l v bytes at before after r = (r ≡ with_version v (got_of (read_outermost l v bytes at))) × RowsAfter (lay in_rows) (read_outermost l v bytes at) 0 before after
TermRead false l v bytes at before after r = r ≡ Refused 11 3

-- The answer after mark and version, for a reader whose newest known version is n: their refusal, or that for the outermost term.
unfoldable pub OutermostRead : Limits → ℕ → Got → List ℕ → ℕ → List ℕ → List ℕ → Got → Type 0
OutermostRead l n (Refused m p) bytes at before after r = r ≡ Refused m p
OutermostRead l n (Fine next terms v) bytes at before after r = TermRead (leb v n) l v bytes at before after r

-- The answer for a whole script, from the one for its outermost term: a byte that is left is 19.
unfoldable pub end_judged : Got → List ℕ → ℕ → Got
end_judged (Refused n p) bytes at = Refused n p
end_judged (Fine next terms boxes) bytes at = pick (ltb at (length bytes)) (Refused 19 at) (Fine next terms boxes)
