use Rattle.std.proofs.Common.{◌≡◌, ◌∙◌, List, ap, arith, length, subst, sym}
use Rattle.std.proofs.lemmas.List.{length-map}
use Rattle.geo_degree.specs.declared.grids.Block.{Block}
use Rattle.geo_degree.specs.Blocks.{AreDigits, rank}
use Rattle.geo_degree.specs.Grids.{grid_value}
use Rattle.geo_degree.proofs.BlockLaws.{length_digits}
use Rattle.geo_grid.specs.Values.{axis_count}
use Rattle.geo_grid.proofs.Changes.{by_digits, digits_within, stands_by_digits}
use Rattle.geo_grid.proofs.search.place.write_place.Goals as goal
use Rattle.geo_degree.specs.declared.limits.TheConstants.{SIZE_LIMIT}

pub write_digits-requires-clause-room : goal.write_digits-requires-clause-room
write_digits-requires-clause-room c = length_digits c.args.grid.now c.args.digits.now c.requires.stands.1.digits ∙ ap axis_count (sym c.blocks-2.ensures)

pub write_values-requires-clause-count : goal.write_values-requires-clause-count
write_values-requires-clause-count c =
    let s = c.requires.stands in
    ap (λ xs. length xs) (by_digits c.args.grid.now s.0 c.args.digits.now c.args.values.now s.1) ∙ length-map c.args.digits.now grid_value ∙ sym c.write_digits.auto.digits

pub write_values-requires-clause-small : goal.write_values-requires-clause-small
write_values-requires-clause-small c =
    let digits = subst (λ (bs : List Block). AreDigits bs c.write_digits.new.digits) c.blocks-2.ensures c.write_digits.ensures.digits in
    digits_within c.args.grid.now c.write_digits.new.digits SIZE_LIMIT digits (omega (arith, c.size.ensures.size, c.size.ensures.small))

pub returns : goal.returns
returns c =
    let digits = subst (λ (bs : List Block). AreDigits bs c.write_digits.new.digits) c.blocks-2.ensures c.write_digits.ensures.digits in
    let index = subst (λ (bs : List Block). rank bs c.write_digits.new.digits ≡ c.args.index) c.blocks-2.ensures c.write_digits.ensures.rank in
    stands_by_digits c.args.grid.now c.args.index c.write_digits.new.digits c.write_values.new.values digits index c.write_values.ensures
