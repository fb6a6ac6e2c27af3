use Rattle.rtps_wire.proofs.AnnouncementLaws.{announces}
use Rattle.rtps_wire.proofs.announced.read_announcement.Goals as goal

pub returns : goal.returns
returns c = record {
  found =
      announces c.args.bytes.now c.in_ok-source.rest.now c.in_ok-destination.rest.now c.in_ok-moment.rest.now
      c.in_ok-source.source c.in_ok-destination.destination c.in_ok-moment.moment c.in_ok-change.change
      c.in_ok-source.ensures c.in_ok-destination.ensures c.in_ok-moment.ensures c.in_ok-change.ensures;
}
