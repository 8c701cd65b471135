use Rattle.std.proofs.Common.{rules, arith, ap, sym, subst, ℕ, List, ◌∙◌, ◌≡◌, ◌+◌, ◌≤◌, ◌∷◌, drop, map, length}
use Rattle.geo_app.proofs.Alone.{Alone, alone_next, alone_over, left_first, none_left}
use Rattle.geo_app.proofs.work.take_all.Goals as goal

pub loop-line-preserved : goal.loop-line-preserved
loop-line-preserved g c =
    let lines = c.args.lines.now in
    let i = c.loop-line.line-index in
    let line = c.line-item.result in
    let first : drop i lines ≡ line ∷ drop (i + 1) lines = left_first lines i line c.loop-line-test.true c.line-item.is in
    alone_next g.W.Views.shows c.loop-line.script c.take.new.self c.loop-line.refused c.in-Ok.more c.or_refused-refused.result c.deref.result.now (map (λ l. l.items) (drop i lines)) (map (λ l. l.items) (drop (i + 1) lines)) (map (λ l. l.items) lines) c.args.out.now.items c.loop-line.out.items c.take.new.out.items c.loop-line.invariant (ap (map (λ l. l.items)) first ∙ ap (λ (l : List ℕ). l ∷ map (λ l. l.items) (drop (i + 1) lines)) (sym c.deref.ensures.value)) c.in-Ok.ensures.carried_out c.in-Ok.ensures.tools c.or_refused-refused.ensures

pub returns : goal.returns
returns g c =
    let lines = c.args.lines.now in
    let past : length lines ≤ c.loop-line.line-index = search (rules, arith) in
    alone_over g.W.Views.shows c.loop-line.script c.loop-line.refused (map (λ l. l.items) lines) c.args.out.now.items c.loop-line.out.items (subst (λ left. Alone g.W.Views.shows c.loop-line.script c.loop-line.refused (map (λ l. l.items) left) (map (λ l. l.items) lines) c.args.out.now.items c.loop-line.out.items) (none_left lines c.loop-line.line-index past) c.loop-line.invariant)
