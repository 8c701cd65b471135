use Rattle.std.proofs.Common.{◌≡◌, ◌++◌, take, map}
use Rattle.std.specs.Prelude.{flat_map}
use Rattle.geo_view.specs.Entries.{exchanged}
use Rattle.geo_view.specs.Pictures.{entry_text, head_text}
use Rattle.geo_view.proofs.picture.write_dual_plane.Given as goal

abbrev pub invariant-loop-entry : goal.invariant-loop-entry
invariant-loop-entry l = l.out.items ≡ (l.fn.out.items ++ head_text) ++ flat_map entry_text (map exchanged (take l.entry-index l.fn.entries))
