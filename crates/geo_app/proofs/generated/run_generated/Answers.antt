use Rattle.geo_app.proofs.generated.run_generated.Goals as goal

pub returns-in-Ok-clause-front : goal.returns-in-Ok-clause-front
returns-in-Ok-clause-front g c = rw (c.deref.ensures.value, c.in-Ok.ensures) at c.write_all.ensures.front
