-- The numbers of the refusals.
use Rattle.std.specs.Prelude.{◌≡◌, ℕ, if◌then◌else◌, Ok, Err, Result, ◌==◌, ◌≢◌}
use Rattle.sheets.specs.declared.refusals.Refusal.{Refusal}
use Rattle.sheets.specs.declared.refusals.Refusal.TheVariants.{LongText, StrayByte, LongWord, BadLine, NoStep, RepeatedName, TooManySteps, BadColumn, SelfFence, OutOfRange, NoneLeft, NotStanding, ShortBuffer, UnsoundBookmark, ForeignBookmark, NotEachOnce, WrongWidth, OpposedMarks}

-- the number of each refusal
abbrev pub number_of : Refusal → ℕ
number_of LongText = 1
number_of StrayByte = 2
number_of LongWord = 3
number_of BadLine = 4
number_of NoStep = 5
number_of RepeatedName = 6
number_of TooManySteps = 7
number_of BadColumn = 8
number_of SelfFence = 9
number_of OutOfRange = 10
number_of NoneLeft = 11
number_of NotStanding = 12
number_of ShortBuffer = 13
number_of UnsoundBookmark = 14
number_of ForeignBookmark = 15
number_of NotEachOnce = 16
number_of WrongWidth = 17
number_of OpposedMarks = 18

-- what a call came to: 0 where it was accepted, else the number of its refusal. Promises speak of this number and not of the case:
-- by it users know a refusal, and a case can come to carry more
abbrev pub outcome : {A : Type 0} → Result A Refusal → ℕ
outcome (Ok _) = 0
outcome (Err e) = number_of e

-- what is there after a call with the outcome k: what was meant where it was accepted, else what was there before
abbrev pub settled : {A : Type 0} → ℕ → A → A → A
settled k before meant = if k == 0 then meant else before

-- a call with the outcome k that was refused left this part as it was
abbrev pub Untouched : {A : Type 0} → ℕ → A → A → Type 0
Untouched k before after = (k ≢ 0) → after ≡ before
