use Rattle.std.proofs.Common.{◌≡◌, ◌∙◌, ◌*◌, sym, ap, true, false, None}
use Rattle.std.specs.Prelude.{is_none, not, nat_lt}
use Rattle.geo_sketch.specs.Heights.{statement_height}
use Rattle.geo_sketch.specs.declared.limits.TheConstants.{NUMBER_LIMIT}
use Rattle.geo_height.specs.Bounds.{magnitude_of}
use Rattle.geo_height.specs.Capped.{within_limit}
use Rattle.geo_triple.specs.declared.limits.TheConstants.{STATEMENT_LIMIT}
use Rattle.geo_check.specs.Faults.{unless}
use Rattle.geo_check.specs.Grids.{magnitudes_in}
use Rattle.geo_check.specs.Instances.{is_zero_on, nothing_set, assigned}
use Rattle.geo_check.proofs.FaultLaws.{low, none_is, unless_failed, unless_passed}
use Rattle.geo_check.proofs.PositionLaws.{blank_assigned, blank_position}
use Rattle.geo_check.proofs.checking.find_points_fault.Goals as goal

pub is_zero_from-requires-clause-position : goal.is_zero_from-requires-clause-position
is_zero_from-requires-clause-position c = blank_position c.args.grid.now c.deref_mut.result.now (c.deref_mut.ensures.value ∙ c.in_ok-values.ensures)

pub returns-then-is_zero_from : goal.returns-then-is_zero_from
returns-then-is_zero_from c =
    let es = c.args.sketch.now.elements in
    let s = c.args.claim.now in
    let gs = c.args.grid.now in
    let size : c.deref.result.now ≡ magnitudes_in c.args.grid.now = c.deref.ensures.value ∙ c.in_ok-magnitudes.ensures in
    let h = statement_height es s (magnitude_of (magnitudes_in gs)) in
    let fits : is_none (within_limit (statement_height c.args.sketch.now.elements c.args.claim.now (magnitude_of (magnitudes_in c.args.grid.now)))) ≡ false
    = ap (λ ms. is_none (within_limit (statement_height es s (magnitude_of ms)))) (sym size) ∙ ap is_none (sym c.of_statement.ensures) ∙ none_is c.of_statement.result c.is_none.result c.is_none.ensures ∙ c.if-is_none.false in
    let zero : is_zero_on es s gs nothing_set ≡ true
    = ap (is_zero_on es s gs) (sym (ap assigned (c.deref_mut.ensures.value ∙ c.in_ok-values.ensures) ∙ blank_assigned (2 * NUMBER_LIMIT))) ∙ sym c.is_zero_from.ensures.zero ∙ c.if-is_zero_from.true in
    sym (unless_passed (not (nat_lt STATEMENT_LIMIT h)) 7 (unless (is_zero_on es s gs nothing_set) 8 None) (low h fits).0 ∙ unless_passed (is_zero_on es s gs nothing_set) 8 None zero)

pub returns : goal.returns
returns c =
    let es = c.args.sketch.now.elements in
    let s = c.args.claim.now in
    let gs = c.args.grid.now in
    let size : c.deref.result.now ≡ magnitudes_in c.args.grid.now = c.deref.ensures.value ∙ c.in_ok-magnitudes.ensures in
    let h = statement_height es s (magnitude_of (magnitudes_in gs)) in
    let fits : is_none (within_limit (statement_height c.args.sketch.now.elements c.args.claim.now (magnitude_of (magnitudes_in c.args.grid.now)))) ≡ false
    = ap (λ ms. is_none (within_limit (statement_height es s (magnitude_of ms)))) (sym size) ∙ ap is_none (sym c.of_statement.ensures) ∙ none_is c.of_statement.result c.is_none.result c.is_none.ensures ∙ c.if-is_none.false in
    let zero : is_zero_on es s gs nothing_set ≡ false
    = ap (is_zero_on es s gs) (sym (ap assigned (c.deref_mut.ensures.value ∙ c.in_ok-values.ensures) ∙ blank_assigned (2 * NUMBER_LIMIT))) ∙ sym c.is_zero_from.ensures.zero ∙ c.if-is_zero_from.false in
    sym (unless_passed (not (nat_lt STATEMENT_LIMIT h)) 7 (unless (is_zero_on es s gs nothing_set) 8 None) (low h fits).0 ∙ unless_failed (is_zero_on es s gs nothing_set) 8 None zero)
