use Rattle.std.proofs.Common.{◌≡◌, ◌∙◌, ◌+◌, None, Some, ap₂}
use Rattle.geo_height.specs.Capped.{within_limit}
use Rattle.geo_bracket.proofs.HeightLaws.{kept_height, sum_past_left, sum_past_right}
use Rattle.geo_bracket.proofs.heights.plus.Goals as goal

pub returns-in_err-x : goal.returns-in_err-x
returns-in_err-x c g h p q = let none : None ≡ within_limit g = cc in let past = sum_past_left g h none in cc

pub returns-in_err-y : goal.returns-in_err-y
returns-in_err-y c g h p q = let none : None ≡ within_limit h = cc in let past = sum_past_right g h none in cc

pub returns : goal.returns
returns c g h p q =
    let first : Some c.in_ok-x.field-0 ≡ within_limit g = cc in
    let second : Some c.in_ok-y.field-0 ≡ within_limit h = cc in
    c.sum_within.ensures ∙ ap₂ (λ x y. within_limit (x + y)) (kept_height g c.in_ok-x.field-0 first).0 (kept_height h c.in_ok-y.field-0 second).0
