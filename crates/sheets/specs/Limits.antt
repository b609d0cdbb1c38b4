-- How large things may be. No other definition knows these numbers.
use Rattle.std.specs.Prelude.{ℕ}
use Rattle.bits.specs.Sets.{width}

-- how many steps a sheet may have
abbrev pub limit : ℕ
limit = 16

-- how many columns there are: as many as a set of them has room for, 0 to 31
abbrev pub columns : ℕ
columns = width
