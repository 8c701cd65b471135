use Rattle.std.proofs.Common.{◌≡◌, ◌∙◌, ap, map, None, Some, rules}
use Rattle.geo_sketch.specs.Rebuilding.{listed, settings_from}
use Rattle.geo_sketch.proofs.RebuildLaws.{listed_names, sound_drawn}
use Rattle.geo_sketch.proofs.SoundLaws.{rebuilt_where}
use Rattle.geo_sketch.proofs.sketches.Sketch.rebuild.Goals as goal

pub of_parts-requires : goal.of_parts-requires
of_parts-requires c =
    let made = rw c.in-Ok-Some.field-0-is at c.in-Ok-Some.ensures in
    let es = map listed c.args.list.now in
    let elements : c.in-Ok-Some.elements.items ≡ es = made.1 in
    let settings : c.in-Ok.settings.items ≡ settings_from 0 es = c.in-Ok.ensures ∙ ap (settings_from 0) (c.deref.ensures.value ∙ elements) in
    rw (elements, settings) (sound_drawn es made.0 (listed_names c.args.list.now))

pub returns-in-Ok-None-clause-computed : goal.returns-in-Ok-None-clause-computed
returns-in-Ok-None-clause-computed c = rebuilt_where c.args.list.now None (rw c.in-Ok-None.field-0-is at c.in-Ok-None.ensures)

pub returns-in-Ok-clause-computed : goal.returns-in-Ok-clause-computed
returns-in-Ok-clause-computed c = rebuilt_where c.args.list.now (Some c.of_parts.result) (search rules)
