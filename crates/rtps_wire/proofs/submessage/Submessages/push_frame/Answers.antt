use Rattle.std.proofs.Common.{rules, ◌≡◌, ◌∙◌, ℕ, List, [], ◌∷◌, ◌++◌, length, drop, slice_set, arith, ap}
use Rattle.std.specs.List.{refill}
use Rattle.std.proofs.lemmas.List.{length-set, take-append-le, take_all}
use Rattle.std.proofs.Math.Seq.{set-append_seam}
use Rattle.rtps_wire.specs.declared.submessage.Submessage.TheVariants.{Pad}
use Rattle.rtps_wire.proofs.submessage.Submessages.push_frame.Goals as goal

-- what stands at the end of a list, once it is written over there
written : {X : Type 0} (old : List X) (blank x : X) (pushed lent : List X) (at : ℕ) → pushed ≡ old ++ blank ∷ []
    → lent ≡ pushed → at ≡ length old → refill (length pushed) pushed (slice_set lent at x) ≡ old ++ x ∷ []
written old blank x pushed lent at push lend place =
    let after = slice_set lent at x in
    let long = length-set lent at x ∙ ap length lend in
    take-append-le (length pushed) after (drop (length after) pushed) (omega (arith, long))
    ∙ take_all (length pushed) after (omega (arith, long))
    ∙ rw (lend, push, place) (set-append_seam old blank [] x)

pub returns : goal.returns
returns c =
    record {
      ok = (
        c.read_into.new.place,
        c.read_into.ensures,
        written c.args.self.now Pad c.read_into.new.place c.push.new.self.items c.as_mut_slice.result.now c.len-at.result
            (search rules) (search rules) (search rules),
      );
    }
