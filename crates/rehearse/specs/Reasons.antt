-- Why two steps of a fenced runbook clash.
use Rattle.std.specs.Prelude.{ℕ, Bool, if◌then◌else◌, Some, None, Option}
use Rattle.bits.specs.Sets.{mask_of}
use Rattle.sheets.specs.declared.footprints.Footprint.{Footprint}
use Rattle.sheets.specs.Limits.{columns}
use Rattle.sheets.specs.Footprints.{meets_in}
use Rattle.rehearse.specs.declared.reasons.Reason.{Reason}
use Rattle.rehearse.specs.declared.reasons.Reason.TheVariants.{Columns, Fence}

-- by their columns, which are those of m, where the runbook shows the clash; by fence where only the sheet over it does; none where
-- they do not clash
abbrev pub reason_of : Bool → Bool → ℕ → Option Reason
reason_of on_runbook on_sheet m = if on_runbook then Some (Columns (record { bits = m })) else if on_sheet then Some Fence else None

-- the columns in which two footprints meet, where both are there
abbrev pub meeting_of : Option Footprint → Option Footprint → ℕ
meeting_of (Some a) (Some b) = mask_of columns (meets_in a b)
meeting_of (Some a) None = 0
meeting_of None o = 0
