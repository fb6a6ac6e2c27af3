use Rattle.std.proofs.Common.{◌≡◌, Some, get_or, slice_get, rules}
use Rattle.std.proofs.lemmas.Option.{slice_get-get_or}
use Rattle.dds_ends.specs.Kept.{ReaderKept}
use Rattle.dds_ends.proofs.Dying.{all_expired, expired_more, none_expired, room_next}
use Rattle.dds_ends.proofs.expiring.expire_all.Goals as goal

pub loop-index-init : goal.loop-index-init
loop-index-init c = none_expired c.args.now c.args.readers.now

pub expire-requires : goal.expire-requires
expire-requires c =
    let k : ReaderKept = get_or c.loop-index.readers c.loop-index.index c.index-readers-index.result in
    let at : slice_get c.loop-index.readers c.loop-index.index ≡ Some k =
    slice_get-get_or c.loop-index.readers c.loop-index.index c.index-readers-index.result (search rules) in
    record {
      room = room_next c.args.now c.loop-index.index c.args.readers.now c.loop-index.readers k c.requires.room
          c.loop-index.invariant at;
    }

pub loop-index-preserved : goal.loop-index-preserved
loop-index-preserved c =
    let k : ReaderKept = get_or c.loop-index.readers c.loop-index.index c.index-readers-index.result in
    let at : slice_get c.loop-index.readers c.loop-index.index ≡ Some k =
    slice_get-get_or c.loop-index.readers c.loop-index.index c.index-readers-index.result (search rules) in
    expired_more c.args.now c.loop-index.index c.args.readers.now c.loop-index.readers k c.expire.new.self
    c.loop-index.invariant at c.expire.ensures.expires

pub returns : goal.returns
returns c =
    record {
      expires = all_expired c.args.now c.loop-index.index c.args.readers.now c.loop-index.readers
          (search rules) c.loop-index.invariant;
    }
