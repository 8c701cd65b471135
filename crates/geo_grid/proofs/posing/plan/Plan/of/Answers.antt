use Rattle.geo_grid.proofs.posing.plan.Plan.of.Goals as goal

pub with_lane-requires-clause-short : goal.with_lane-requires-clause-short
with_lane-requires-clause-short c t = rw (c.deref.ensures.value, c.deref-2.ensures.value) at (c.are_short_elements-is_short.ensures.0 t)

pub are_short_elements-is_short-requires-clause-live : goal.are_short_elements-is_short-requires-clause-live
are_short_elements-is_short-requires-clause-live c = rw c.deref.ensures.value c.requires.live

pub are_short_elements-is_short-requires-clause-few : goal.are_short_elements-is_short-requires-clause-few
are_short_elements-is_short-requires-clause-few c = rw c.deref-2.ensures.value c.requires.few
