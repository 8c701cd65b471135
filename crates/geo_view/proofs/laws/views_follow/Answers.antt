use Rattle.std.proofs.Common.{◌≡◌, Some}
use Rattle.geo_triple.specs.declared.Triple.{Triple}
use Rattle.geo_triple.specs.Primitive.{IsPrimitiveOf, primitive_of}
use Rattle.geo_view.proofs.NearLaws.{changes_near, shown_near}
use Rattle.geo_view.proofs.ViewLaws.{followed}
use Rattle.geo_view.proofs.laws.views_follow.Goals as goal

pub returns-clause-follow : goal.returns-clause-follow
returns-clause-follow c = followed

pub returns-clause-near : goal.returns-clause-near
returns-clause-near c drawing d forward drawn =
    let law : (t u : Triple) → primitive_of t ≡ Some u → IsPrimitiveOf t u = λ t u. (c.primitive_or_zero.ensures.primitive t u).0 in
    (shown_near law drawing drawn, changes_near law drawing drawn d forward)
