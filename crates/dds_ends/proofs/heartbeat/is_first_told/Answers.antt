use Rattle.std.proofs.Common.{Bool, true, false, not, ◌&&◌, get_or, take, ap, sym, ◌∙◌}
use Rattle.dds_protocol.specs.DueMessages.{is_told}
use Rattle.dds_ends.specs.Beating.{is_peer_told}
use Rattle.dds_ends.specs.Standing.{state_of}
use Rattle.dds_ends.proofs.Beating.{first_at, no_row, told_at}
use Rattle.dds_ends.proofs.Joining.{no_name}
use Rattle.dds_ends.proofs.heartbeat.is_first_told.Goals as goal

pub returns-then-is_told : goal.returns-then-is_told
returns-then-is_told c = λ w answered same stands.
    let told = is_told answered w in
    ap (λ (b : Bool). b && not c.is_peer_told.result)
    (sym (told_at w answered c.args.readers.now c.args.row true same c.requires.row
    (sym (c.is_told.ensures.told (state_of w answered) stands) ∙ c.if-is_told.true)))
    ∙ (ap (λ (b : Bool). told (get_or w.readers c.args.row no_row) && not b)
    (c.is_peer_told.ensures w answered same stands)
    ∙ sym (first_at told w c.args.readers.now c.args.row same c.requires.row))

pub returns-else-is_told : goal.returns-else-is_told
returns-else-is_told c = λ w answered same stands.
    c.if-is_told.false
    ∙ sym (first_at (is_told answered w) w c.args.readers.now c.args.row same c.requires.row
    ∙ ap (λ (b : Bool). b
    && not (is_peer_told (is_told answered w) (get_or c.args.readers.now c.args.row no_name).reader.peer
    (take c.args.row w.readers)))
    (told_at w answered c.args.readers.now c.args.row false same c.requires.row
    (sym (c.is_told.ensures.told (state_of w answered) stands) ∙ c.if-is_told.false)))
