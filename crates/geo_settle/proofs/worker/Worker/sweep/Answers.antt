use Rattle.std.proofs.Common.{◌≡◌, ◌<◌, ◌∙◌, ap, sym, subst, ℕ, All, arith}
use Rattle.std.proofs.lemmas.List.Elements.{All-push}
use Rattle.geo_board.specs.declared.seat.Board.{Board}
use Rattle.geo_board.specs.declared.seat.BoardSeat.{BoardSeat}
use Rattle.geo_board.specs.declared.seat.Entry.{Entry}
use Rattle.geo_board.specs.BoardSeats.{IsSeatOf, total_of, worker_of}
use Rattle.geo_board.specs.Machine.{entry}
use Rattle.geo_settle.specs.Fails.{IsTruthfulOf}
use Rattle.geo_settle.proofs.SweepLaws.{AfterChunk, after_chunk}
use Rattle.geo_settle.proofs.worker.Worker.sweep.Given.{Over}
use Rattle.geo_settle.proofs.worker.Worker.sweep.Goals as goal

-- what the worker is after a chunk
after : (g : Over) (c : goal.After-finish g) → AfterChunk (total_of c.args.round.now.1) (entry c.in-Some.chunk c.search-found.result c.search-found.ensures.truthful.0) (worker_of c.loop-chunk.self.1) (worker_of c.finish.new.seat)
after g c =
    let claimed = c.in-Some.ensures.claimed in
    let told = c.search-found.ensures.truthful in
    let total : total_of c.round.inside.board ≡ total_of c.args.round.now.1 = ap (λ (p : g.row.F.Denot × Board). total_of p.1) c.round.view_is in
    let is : c.in-Some.chunk ≡ claimed.0 = claimed.2.0 in
    let seat : worker_of c.self.inside.seat ≡ worker_of c.loop-chunk.self.1 = ap (λ (p : g.row.F.Denot × BoardSeat). worker_of p.1) c.self.view_is in
    let kept : worker_of c.self-in-Some.inside.seat ≡ worker_of c.search-found.new.self.1 = ap (λ (p : g.row.F.Denot × BoardSeat). worker_of p.1) c.self-in-Some.view_is in
    subst (λ (n : ℕ). AfterChunk n (entry c.in-Some.chunk c.search-found.result told.0) (worker_of c.loop-chunk.self.1) (worker_of c.finish.new.seat)) total
    (subst (λ (n : ℕ). AfterChunk (total_of c.round.inside.board) (entry n c.search-found.result told.0) (worker_of c.loop-chunk.self.1) (worker_of c.finish.new.seat)) (sym is)
    (after_chunk (total_of c.round.inside.board) claimed.0 told.0 c.search-found.result (worker_of c.loop-chunk.self.1) _ _ _ _ _
    (omega (arith, is, claimed.2.1)) (subst (λ (n : ℕ). All (λ (e : Entry). e.chunk < n) (worker_of c.self.inside.seat).entries) is c.in-Some.ensures.above) seat claimed.1 told.1 kept c.finish.ensures.finished))

pub loop-chunk-smaller : goal.loop-chunk-smaller
loop-chunk-smaller g c = (after g c).nearer

pub loop-chunk-preserved : goal.loop-chunk-preserved
loop-chunk-preserved g c =
    let done = after g c in
    let q = g.F.Form.question c.args.round.now.0 in
    let i = c.loop-chunk.invariant in
    let new = entry c.in-Some.chunk c.search-found.result c.search-found.ensures.truthful.0 in
    record {
      of_round = (
        ap (λ (p : g.row.F.Denot × BoardSeat). p.0) c.self-in-Some.view_is ∙ c.search-found.ensures.of_round.0.0,
        subst (λ (p : g.row.F.Denot × Board). IsSeatOf p.1 c.finish.new.seat) c.round.view_is c.finish.ensures.of_board.0,
      );
      idle = (done.idle.0, done.idle.1 ∙ i.idle.1);
      truthful = subst (All (IsTruthfulOf q)) (sym done.entries) (All-push (IsTruthfulOf q) (worker_of c.loop-chunk.self.1).entries new i.truthful c.search-found.ensures.truthful.2);
    }
