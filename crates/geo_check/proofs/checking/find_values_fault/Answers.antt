use Rattle.std.proofs.Common.{◌≡◌, ◌∙◌, ◌≤◌, sym, ap, subst, le_trans, true, false, None}
use Rattle.std.specs.Prelude.{is_none, not, nat_lt, unsigned_abs}
use Rattle.geo_sketch.specs.Assignments.{assignment_of, magnitudes}
use Rattle.geo_sketch.specs.Heights.{statement_height}
use Rattle.geo_sketch.specs.Statements.{parts_at}
use Rattle.geo_sketch.proofs.SketchLaws.{constructed}
use Rattle.geo_height.specs.Bounds.{magnitude_of}
use Rattle.geo_height.specs.Capped.{within_limit}
use Rattle.geo_triple.specs.declared.limits.TheConstants.{STATEMENT_LIMIT}
use Rattle.geo_height.proofs.HeightLaws.{statement_height_grows}
use Rattle.geo_triple.specs.Zero.{are_zero}
use Rattle.geo_check.specs.Faults.{unless}
use Rattle.geo_check.specs.Grids.{sizes_of_values}
use Rattle.geo_check.specs.Instances.{assigned}
use Rattle.geo_check.proofs.FaultLaws.{low, none_is, unless_failed, unless_passed}
use Rattle.geo_check.proofs.ValueLaws.{values_low, within_sizes}
use Rattle.geo_check.proofs.checking.find_values_fault.Goals as goal

pub assigned_values-requires : goal.assigned_values-requires
assigned_values-requires c = values_low c.args.sketch.now c.in_ok-needed.ensures.drawn c.args.stated.now c.requires.values

pub is_zero_at-requires-clause-low : goal.is_zero_at-requires-clause-low
is_zero_at-requires-clause-low c =
    let es = c.args.sketch.now.elements in
    let s = c.args.claim.now in
    let stated = c.args.stated.now in
    let v = assigned c.deref-3.result.now in
    let same : assigned c.deref-3.result.now ≡ assignment_of c.args.stated.now = ap assigned c.deref-3.ensures.value ∙ c.in_ok-values.ensures.values in
    let size : c.deref.result.now ≡ sizes_of_values c.args.stated.now = c.deref.ensures.value ∙ c.in_ok-sizes.ensures in
    let h = statement_height es s (magnitude_of (sizes_of_values stated)) in
    let fits : is_none (within_limit (statement_height c.args.sketch.now.elements c.args.claim.now (magnitude_of (sizes_of_values c.args.stated.now)))) ≡ false
    = ap (λ ms. is_none (within_limit (statement_height es s (magnitude_of ms)))) (sym size) ∙ ap is_none (sym c.of_statement.ensures) ∙ none_is c.of_statement.result c.is_none.result c.is_none.ensures ∙ c.if-is_none.false in
    le_trans (statement_height_grows es (constructed c.args.sketch.now c.in_ok-needed.ensures.drawn) (magnitudes v) (magnitude_of (sizes_of_values stated)) (λ p. subst (λ f. unsigned_abs (f p) ≤ magnitude_of (sizes_of_values stated) p) (sym same) (within_sizes stated p)) s) (low h fits).1

pub returns-then-is_zero_at : goal.returns-then-is_zero_at
returns-then-is_zero_at c =
    let es = c.args.sketch.now.elements in
    let s = c.args.claim.now in
    let stated = c.args.stated.now in
    let same : assigned c.deref-3.result.now ≡ assignment_of c.args.stated.now = ap assigned c.deref-3.ensures.value ∙ c.in_ok-values.ensures.values in
    let size : c.deref.result.now ≡ sizes_of_values c.args.stated.now = c.deref.ensures.value ∙ c.in_ok-sizes.ensures in
    let h = statement_height es s (magnitude_of (sizes_of_values stated)) in
    let fits : is_none (within_limit (statement_height c.args.sketch.now.elements c.args.claim.now (magnitude_of (sizes_of_values c.args.stated.now)))) ≡ false
    = ap (λ ms. is_none (within_limit (statement_height es s (magnitude_of ms)))) (sym size) ∙ ap is_none (sym c.of_statement.ensures) ∙ none_is c.of_statement.result c.is_none.result c.is_none.ensures ∙ c.if-is_none.false in
    let zero : are_zero (parts_at es s (assignment_of stated)) ≡ true = ap (λ f. are_zero (parts_at es s f)) (sym same) ∙ sym c.is_zero_at.ensures ∙ c.if-is_zero_at.true in
    sym (unless_passed (not (nat_lt STATEMENT_LIMIT h)) 7 (unless (not (are_zero (parts_at es s (assignment_of stated)))) 8 None) (low h fits).0 ∙ unless_failed (not (are_zero (parts_at es s (assignment_of stated)))) 8 None (ap not zero))

pub returns : goal.returns
returns c =
    let es = c.args.sketch.now.elements in
    let s = c.args.claim.now in
    let stated = c.args.stated.now in
    let same : assigned c.deref-3.result.now ≡ assignment_of c.args.stated.now = ap assigned c.deref-3.ensures.value ∙ c.in_ok-values.ensures.values in
    let size : c.deref.result.now ≡ sizes_of_values c.args.stated.now = c.deref.ensures.value ∙ c.in_ok-sizes.ensures in
    let h = statement_height es s (magnitude_of (sizes_of_values stated)) in
    let fits : is_none (within_limit (statement_height c.args.sketch.now.elements c.args.claim.now (magnitude_of (sizes_of_values c.args.stated.now)))) ≡ false
    = ap (λ ms. is_none (within_limit (statement_height es s (magnitude_of ms)))) (sym size) ∙ ap is_none (sym c.of_statement.ensures) ∙ none_is c.of_statement.result c.is_none.result c.is_none.ensures ∙ c.if-is_none.false in
    let zero : are_zero (parts_at es s (assignment_of stated)) ≡ false = ap (λ f. are_zero (parts_at es s f)) (sym same) ∙ sym c.is_zero_at.ensures ∙ c.if-is_zero_at.false in
    sym (unless_passed (not (nat_lt STATEMENT_LIMIT h)) 7 (unless (not (are_zero (parts_at es s (assignment_of stated)))) 8 None) (low h fits).0 ∙ unless_passed (not (are_zero (parts_at es s (assignment_of stated)))) 8 None (ap not zero))
