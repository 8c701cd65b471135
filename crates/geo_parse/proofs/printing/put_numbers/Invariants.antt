use Rattle.std.proofs.Common.{◌≡◌, ◌∷◌, ◌++◌, take}
use Rattle.std.specs.List.{flat_map}
use Rattle.std.specs.Fmt.{signed_decimal}
use Rattle.geo_parse.specs.Writers.{Extends}
use Rattle.geo_parse.proofs.printing.put_numbers.Given as goal

abbrev pub invariant-loop-number : goal.invariant-loop-number
invariant-loop-number l = record {
  written : l.out.items ≡ l.fn.out.items ++ flat_map (λ z. 32 ∷ signed_decimal z) (take l.number-index l.numbers);
  kept : Extends l.fn.out.items l.out.items;
}
