use Rattle.std.proofs.Common.{◌≡◌, ◌∷◌, ◌++◌, true, take}
use Rattle.std.specs.List.{list_all, flat_map}
use Rattle.geo_sketch.specs.Names.{is_name}
use Rattle.geo_parse.specs.Writers.{Extends}
use Rattle.geo_parse.proofs.printing.put_names.Given as goal

abbrev pub invariant-loop-name : goal.invariant-loop-name
invariant-loop-name l = record {
  written : l.out.items ≡ l.fn.out.items ++ flat_map (λ n. 32 ∷ n) (take l.name-index l.names);
  named : list_all is_name (take l.name-index l.names) ≡ true;
  kept : Extends l.fn.out.items l.out.items;
}
