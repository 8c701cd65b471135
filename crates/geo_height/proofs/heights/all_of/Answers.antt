use Rattle.std.proofs.Common.{◌≡◌, None, Some}
use Rattle.geo_height.specs.Capped.{within_limit}
use Rattle.geo_height.proofs.CappedLaws.{gathered, past_first, past_second, past_third}
use Rattle.geo_height.proofs.heights.all_of.Goals as goal

pub returns-in_err-a : goal.returns-in_err-a
returns-in_err-a c g p q r = let none : None ≡ within_limit g.a = cc in let past = past_first g none in cc

pub returns-in_err-b : goal.returns-in_err-b
returns-in_err-b c g p q r = let none : None ≡ within_limit g.b = cc in let past = past_second g none in cc

pub returns-in_err-c : goal.returns-in_err-c
returns-in_err-c c g p q r = let none : None ≡ within_limit g.c = cc in let past = past_third g none in cc

pub returns : goal.returns
returns c g p q r =
    let first : Some c.in_ok-a.field-0 ≡ within_limit g.a = cc in
    let second : Some c.in_ok-b.field-0 ≡ within_limit g.b = cc in
    let third : Some c.in_ok-c.field-0 ≡ within_limit g.c = cc in
    gathered g c.in_ok-a.field-0 c.in_ok-b.field-0 c.in_ok-c.field-0 first second third
