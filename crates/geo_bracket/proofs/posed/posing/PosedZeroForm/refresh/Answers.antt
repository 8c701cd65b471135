use Rattle.geo_bracket.proofs.posed.posing.PosedZeroForm.refresh.Goals as goal

pub refresh-requires-clause-low : goal.refresh-requires-clause-low
refresh-requires-clause-low g c = c.args.self.now.low _ _ c.requires.low
