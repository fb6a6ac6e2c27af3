use Rattle.std.proofs.Common.{ℕ, ap, ◌∙◌, arith}
use Rattle.std.specs.Int.{w32}
use Rattle.dds_base.specs.Fields.{number}
use Rattle.dds_base.specs.declared.endianness.Endianness.TheVariants.{Little}
use Rattle.rtps_wire.proofs.SetSpelling.{word_is, set_octets_more, set_octets}
use Rattle.rtps_wire.proofs.set_field.octets_of.Goals as goal

pub loop-at-preserved : goal.loop-at-preserved
loop-at-preserved c =
    let set = c.args.set.now in
    set_octets_more c.loop-at.octets set.base c.args.bits set.members c.loop-at.at c.to_le_bytes-in-loop-at.result
    c.loop-at.invariant c.loop-at-test.true
    (c.to_le_bytes-in-loop-at.ensures
    ∙ ap (λ (w : ℕ). number Little w32 w)
    (word_is c.words-words.result set.members c.loop-at.at c.loop-at-test.true
    (omega (arith, c.loop-at-test.element_fits.fits)) c.words-words.ensures.members))

pub returns : goal.returns
returns c = λ n le.
    set_octets c.loop-at.octets c.args.set.now.base c.args.bits c.args.set.now.members c.loop-at.at n
    c.loop-at.invariant c.loop-at-test.false le
