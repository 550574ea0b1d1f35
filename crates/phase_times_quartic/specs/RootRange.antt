-- The range in which a root leads to a try. Definitions only.
use Rattle.std.specs.Prelude.{Bool, ◌||◌, Float}
use Rattle.doubles.specs.Operators.{◌<ᶠ◌}
use Rattle.phase_times_quartic.specs.declared.root_range.RootRange.{RootRange}

-- the root t is passed over; a bound that is a NaN keeps it
unfoldable pub is_skipped : RootRange → Float → Bool
is_skipped range t = (t <ᶠ range.t_min) || (range.t_max <ᶠ t)
