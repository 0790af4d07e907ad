use Rattle.std.proofs.Common.{ℕ, ◌+◌, List, [], ◌∷◌, ap, ◌∙◌, arith}
use Rattle.umem.specs.Frames.{written}
use Rattle.umem.proofs.Written.{written_more}
use Rattle.trace.proofs.layout.Record.put.Goals as goal

pub returns : goal.returns
returns c =
    let at = c.args.at in
    let packet = c.args.self.packet.now in
    c.put-2.ensures
    ∙ ap (λ (bytes : List ℕ). written bytes (at + 1) packet) c.put.ensures
    ∙ written_more c.args.buffer.now (c.args.self.port ∷ []) packet at (at + 1) (omega arith) (omega arith)
