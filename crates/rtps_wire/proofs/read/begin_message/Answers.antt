use Rattle.std.proofs.Common.{◌≡◌, List, Option, Some, None, IfSome, IfNone, arith, sym, ℕ}
use Rattle.std.specs.Option.{option_map}
use Rattle.dds_base.specs.declared.guid.GuidPrefix.{GuidPrefix}
use Rattle.rtps_wire.specs.HeaderAt.{header_at}
use Rattle.rtps_wire.specs.Messages.{HasHeader}
use Rattle.rtps_wire.proofs.MessageLaws.{header_found, header_again}
use Rattle.rtps_wire.proofs.read.begin_message.Goals as goal

headed : {X : Type 0} (f : X → GuidPrefix × List ℕ) (bytes : List ℕ) (o : Option X)
    → ((x : GuidPrefix × List ℕ) → header_at bytes ≡ Some x → HasHeader bytes x.0 x.1) → option_map f o ≡ header_at bytes
    → IfSome o (λ x. HasHeader bytes (f x).0 (f x).1)
headed f bytes None found none = tt
headed f bytes (Some x) found some = found (f x) (sym some)

unread : {X : Type 0} (f : X → GuidPrefix × List ℕ) (bytes : List ℕ) (o : Option X) → option_map f o ≡ header_at bytes
    → IfNone o ((source : GuidPrefix) (body : List ℕ) → HasHeader bytes source body → ⊥)
unread f bytes None none = λ source body h. let again = header_again bytes source body h in cc
unread f bytes (Some x) found = tt

pub returns-clause-found : goal.returns-clause-found
returns-clause-found c =
    headed (λ x. (x.0, x.1.now)) c.args.bytes.now c.take_header.result
    (λ x found. header_found c.args.bytes.now x (λ i. omega (arith, c.type_inv.bytes i)) (omega arith) found)
    c.take_header.ensures.value

pub returns-clause-none : goal.returns-clause-none
returns-clause-none c =
    unread (λ x. (x.0, x.1.now)) c.args.bytes.now c.take_header.result c.take_header.ensures.value
