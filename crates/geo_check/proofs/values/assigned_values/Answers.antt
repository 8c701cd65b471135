use Rattle.std.proofs.Common.{◌∙◌, ◌*◌, ap}
use Rattle.geo_sketch.specs.declared.limits.TheConstants.{NUMBER_LIMIT}
use Rattle.geo_check.specs.Instances.{assigned}
use Rattle.geo_check.proofs.PositionLaws.{blank_assigned}
use Rattle.geo_check.proofs.values.assigned_values.Goals as goal

pub assign-requires-clause-nothing : goal.assign-requires-clause-nothing
assign-requires-clause-nothing c = ap assigned (c.deref_mut.ensures.value ∙ c.in_ok-position.ensures) ∙ blank_assigned (2 * NUMBER_LIMIT)
