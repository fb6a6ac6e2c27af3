-- What is read of a body is the submessage that it shows, and what it shows is read.
use Rattle.std.proofs.Common.{◌≡◌, ℕ, ◌+◌, ◌*◌, ◌/◌, ◌%◌, ◌^◌, ◌<◌, Bool, false, cond, eqb, ltb, ◌||◌, List, ◌++◌, Option, Some, None, refl, sym, ap, subst, ◌∙◌, arith, ◌⊎◌, inl, inr, ℤ}
use Rattle.std.specs.Prelude.{unwrap_or, IfNone, IfSome}
use Rattle.std.specs.Option.{option_map}
use Rattle.std.specs.Int.{w32}
use Rattle.std.proofs.lemmas.Bool.{eqb-true, ltb-false, le-ltb}
use Rattle.std.proofs.lemmas.Option.{option_and_then_some}
use Rattle.dds_base.specs.declared.endianness.Endianness.{Endianness}
use Rattle.dds_base.specs.declared.guid.EntityId.{EntityId}
use Rattle.dds_base.specs.declared.guid.GuidPrefix.{GuidPrefix}
use Rattle.dds_base.specs.Fields.{number_at, ◌>>=◌}
use Rattle.dds_base.specs.FieldPairs.{both}
use Rattle.dds_base.proofs.FieldLaws.{AreOctets, cond_is, guard_some, some_is, field_u32, field_both}
use Rattle.rtps_sets.specs.NumberSet.{NumberSet}
use Rattle.rtps_wire.specs.declared.acknack.AckNack.{AckNack}
use Rattle.rtps_wire.specs.declared.gap.Gap.{Gap}
use Rattle.rtps_wire.specs.declared.heartbeat.Heartbeat.{Heartbeat}
use Rattle.rtps_wire.specs.declared.submessage.Submessage.{Submessage}
use Rattle.rtps_wire.specs.declared.submessage.Submessage.TheVariants as submessages
use Rattle.rtps_wire.specs.Fields.{has_flag, order_of, sn_text}
use Rattle.rtps_wire.specs.FieldAt.{entity_id_at, prefix_at, sn_at, count_at}
use Rattle.rtps_wire.specs.SetAt.{acknack_set_at, set_at}
use Rattle.rtps_wire.specs.Heartbeat.{heartbeat_text, IsHeartbeat}
use Rattle.rtps_wire.specs.DataAt.{data_at}
use Rattle.rtps_wire.specs.Submessages.{IsKnownKind, Reads}
use Rattle.rtps_wire.specs.SubmessageAt.{info_dst_at, info_ts_at, heartbeat_at, acknack_at, gap_at, known_at}
use Rattle.rtps_wire.proofs.WireFields.{field_entity_id, field_prefix, field_sn, field_count, halves_text, halves_are}
use Rattle.rtps_wire.proofs.TestLaws.{neither}
use Rattle.rtps_wire.proofs.SetLaws.{acknack_set_found, acknack_set_only, set_found, set_only}
use Rattle.rtps_wire.proofs.DataLaws.{data_found, data_only, mapped_some}

-- ---- INFO_DST

info_dst_found : (flags : ℕ) (body : List ℕ) (p : GuidPrefix) → AreOctets body → info_dst_at body ≡ Some p
    → IsKnownKind 14 flags body (submessages.InfoDst p)
unfolding info_dst_at
info_dst_found flags body prefix octets e = option_and_then_some (λ x. Some x.0) (prefix_at body) prefix e (λ p q r.
    let t = field_prefix.takes body p.0 p.1 octets q in
    subst (λ (x : GuidPrefix). IsKnownKind 14 flags body (submessages.InfoDst x)) (some_is p.0 prefix r)
    (record { kind = refl; flags_are = tt; body_is = (p.1, t.0.parts); valid = t.1 }))

-- ---- INFO_TS

info_ts_found : (flags : ℕ) (body : List ℕ) (m : Option ℕ) → AreOctets body → info_ts_at flags body ≡ Some m
    → IsKnownKind 9 flags body (submessages.InfoTs m)
unfolding info_ts_at
info_ts_found flags body m octets e =
    let order = order_of flags in
    let P : Type 0 = IsKnownKind 9 flags body (submessages.InfoTs m) in
    cond_is {P = IsKnownKind 9 flags body (submessages.InfoTs m)} (has_flag flags 2) (Some None)
    (both (number_at (order_of flags) w32) (number_at (order_of flags) w32) body >>= λ x. Some
    (Some (x.0.0 * 2 ^ 32 + x.0.1))) (Some m) e
    (λ set p. subst (λ (x : Option ℕ). IsKnownKind 9 flags body (submessages.InfoTs x)) (some_is None m p)
    (record { kind = refl; flags_are = set; body_is = tt; valid = tt }))
    (λ clear p. option_and_then_some (λ x. Some (Some (x.0.0 * 2 ^ 32 + x.0.1)))
    (both (number_at order w32) (number_at order w32) body) m p (λ x q r.
    let t = (field_both (field_u32 order) (field_u32 order)).takes body x.0 x.1 octets q in
    subst (λ (y : Option ℕ). IsKnownKind 9 flags body (submessages.InfoTs y))
    (some_is (Some (x.0.0 * 2 ^ 32 + x.0.1)) m r) (record {
      kind = refl;
      flags_are = clear;
      body_is = (x.1, t.0.parts ∙ ap (λ (z : List ℕ). z ++ x.1) (sym (halves_text order x.0.0 x.0.1 t.1.1)));
      valid = omega (arith, t.1.0, t.1.1);
    })))

moment_only : (flags n : ℕ) (body rest : List ℕ) → has_flag flags 2 ≡ false → n < 2 ^ 64
    → body ≡ sn_text (order_of flags) n ++ rest
    → info_ts_at flags body ≡ Some (Some n)
unfolding info_ts_at
moment_only flags n body rest clear lt e =
    let order = order_of flags in
    let fits : (n / 2 ^ 32 < 2 ^ 32) × (n % 2 ^ 32 < 2 ^ 32) = (omega arith, omega arith) in
    ap (info_ts_at flags) e
    ∙ rw (
      clear,
      (field_both (field_u32 (order_of flags)) (field_u32 (order_of flags))).again
          (n / 2 ^ 32, n % 2 ^ 32) rest fits,
      halves_are n,
    ) refl

-- ---- HEARTBEAT

abbrev heartbeat_fields : Endianness → List ℕ → Option (((((EntityId × EntityId) × ℕ) × ℕ) × ℤ) × List ℕ)
heartbeat_fields order =
    both (both (both (both entity_id_at entity_id_at) (sn_at order)) (sn_at order)) (count_at order)

-- what a body says, by its fields
abbrev heartbeat_said : ℕ → (((EntityId × EntityId) × ℕ) × ℕ) × ℤ → Heartbeat
heartbeat_said flags fields = record {
  reader_id = fields.0.0.0.0;
  writer_id = fields.0.0.0.1;
  first_sn = fields.0.0.1;
  last_sn = fields.0.1;
  count = fields.1;
  final_flag = has_flag flags 2;
  liveliness_flag = has_flag flags 4;
}

heartbeat_found : (flags : ℕ) (body : List ℕ) (h : Heartbeat) → AreOctets body → heartbeat_at flags body ≡ Some h
    → IsKnownKind 7 flags body (submessages.Heartbeat h)
unfolding heartbeat_at
heartbeat_found flags body s octets e =
    let order = order_of flags in
    option_and_then_some (λ x. cond (ltb x.0.0.0.1 1 || ltb (x.0.0.1 + 1) x.0.0.0.1) None
    (Some (heartbeat_said flags x.0)))
    (heartbeat_fields (order_of flags) body) s e (λ x q r.
    let t =
    (field_both (field_both (field_both (field_both field_entity_id field_entity_id) (field_sn order))
    (field_sn order)) (field_count order)).takes body x.0 x.1 octets q in
    let h : Heartbeat = heartbeat_said flags x.0 in
    let g = guard_some (ltb h.first_sn 1 || ltb (h.last_sn + 1) h.first_sn) (Some h) s r in
    let n = neither (ltb h.first_sn 1) (ltb (h.last_sn + 1) h.first_sn) g.0 in
    subst (λ (y : Heartbeat). IsKnownKind 7 flags body (submessages.Heartbeat y)) (some_is h s g.1) (record {
      kind = refl;
      flags_are = (refl, refl);
      body_is = (x.1, t.0.parts);
      valid =
          record {
            reader = t.1.0.0.0.0;
            writer = t.1.0.0.0.1;
            first = ltb-false _ _ n.0;
            not_past = ltb-false _ _ n.1;
            first_small = t.1.0.0.1;
            last_small = t.1.0.1;
            count = t.1.1;
          };
    }))

heartbeat_only : (flags : ℕ) (h : Heartbeat) (body rest : List ℕ) → IsHeartbeat h → has_flag flags 2 ≡ h.final_flag
    → has_flag flags 4 ≡ h.liveliness_flag → body ≡ heartbeat_text (order_of flags) h ++ rest
    → heartbeat_at flags body ≡ Some h
unfolding heartbeat_at
heartbeat_only flags h body rest valid final live e =
    let order = order_of flags in
    let early : ltb h.first_sn 1 ≡ false = le-ltb _ _ valid.first in
    let late : ltb (h.last_sn + 1) h.first_sn ≡ false = le-ltb _ _ valid.not_past in
    let made : (a b : Bool) → Heartbeat = λ a b. record h { final_flag = a; liveliness_flag = b } in
    ap (heartbeat_at flags) e
    ∙ rw (
      (field_both (field_both (field_both (field_both field_entity_id field_entity_id) (field_sn (order_of flags)))
          (field_sn (order_of flags))) (field_count (order_of flags))).again
          ((((h.reader_id, h.writer_id), h.first_sn), h.last_sn), h.count) rest
          ((((valid.reader, valid.writer), valid.first_small), valid.last_small), valid.count),
      early,
      late,
    )
    (ap (λ (a : Bool). Some (made a (has_flag flags 4))) final ∙ ap (λ (b : Bool). Some (made h.final_flag b)) live)

-- ---- ACKNACK and GAP

-- what a body says, by its fields
abbrev acknack_said : ℕ → EntityId × EntityId → NumberSet → ℤ → AckNack
acknack_said flags ids set count =
    record {
      reader_id = ids.0;
      writer_id = ids.1;
      reader_sn_state = set;
      count = count;
      final_flag = has_flag flags 2;
    }

acknack_found : (flags : ℕ) (body : List ℕ) (s : AckNack) → AreOctets body → acknack_at flags body ≡ Some s
    → IsKnownKind 6 flags body (submessages.AckNack s)
unfolding acknack_at
acknack_found flags body s octets e =
    let order = order_of flags in
    option_and_then_some (λ ids. acknack_set_at (order_of flags) ids.1 >>= λ set.
    count_at (order_of flags) set.1 >>= λ n. Some (acknack_said flags ids.0 set.0 n.0))
    (both entity_id_at entity_id_at body) s e (λ ids q1 e1.
    let t0 = (field_both field_entity_id field_entity_id).takes body ids.0 ids.1 octets q1 in
    option_and_then_some (λ set. count_at (order_of flags) set.1 >>= λ n.
    Some (acknack_said flags ids.0 set.0 n.0)) (acknack_set_at (order_of flags) ids.1) s e1 (λ set q2 e2.
    let t1 = acknack_set_found order ids.1 set t0.0.octets q2 in
    option_and_then_some
    (λ n. Some (acknack_said flags ids.0 set.0 n.0)) (count_at (order_of flags) set.1) s e2 (λ n q3 e3.
    let t2 = (field_count order).takes set.1 n.0 n.1 t1.octets q3 in
    subst (λ (y : AckNack). IsKnownKind 6 flags body (submessages.AckNack y))
    (some_is (acknack_said flags ids.0 set.0 n.0) s e3) (record {
      kind = refl;
      flags_are = refl;
      body_is =
          record {
            from_set = ids.1;
            from_count = set.1;
            rest = n.1;
            ids = t0.0.parts;
            set = t1.reads;
            count = t2.0.parts;
          };
      valid = record { reader = t0.1.0; writer = t0.1.1; count = t2.1 };
    }))))

acknack_only : (flags : ℕ) (a : AckNack) (body : List ℕ) → IsKnownKind 6 flags body (submessages.AckNack a)
    → acknack_at flags body ≡ Some a
unfolding acknack_at
acknack_only flags a body k =
    let x = k.body_is in
    let last : count_at (order_of flags) x.from_count ≡ Some (a.count, x.rest) =
    ap (count_at (order_of flags)) x.count ∙ (field_count (order_of flags)).again a.count x.rest k.valid.count in
    ap (acknack_at flags) x.ids
    ∙ rw (
      (field_both field_entity_id field_entity_id).again (a.reader_id, a.writer_id) x.from_set
          (k.valid.reader, k.valid.writer),
      acknack_set_only (order_of flags) x.from_set a.reader_sn_state x.from_count x.set,
      last,
    )
    (ap (λ (b : Bool). Some (record a { final_flag = b })) k.flags_are)

gap_found : (flags : ℕ) (body : List ℕ) (s : Gap) → AreOctets body → gap_at flags body ≡ Some s
    → IsKnownKind 8 flags body (submessages.Gap s)
unfolding gap_at
gap_found flags body s octets e =
    let order = order_of flags in
    option_and_then_some (λ x. set_at (order_of flags) x.1 >>= λ set. cond (ltb x.0.1 1) None
    (Some (record { reader_id = x.0.0.0; writer_id = x.0.0.1; gap_start = x.0.1; gap_list = set.0 })))
    (both (both entity_id_at entity_id_at) (sn_at (order_of flags)) body) s e (λ x q1 e1.
    let t0 = (field_both (field_both field_entity_id field_entity_id) (field_sn order)).takes body x.0 x.1 octets q1 in
    option_and_then_some
    (λ set. cond (ltb x.0.1 1) None
    (Some (record { reader_id = x.0.0.0; writer_id = x.0.0.1; gap_start = x.0.1; gap_list = set.0 })))
    (set_at (order_of flags) x.1) s e1 (λ set q2 e2.
    let t1 = set_found order x.1 set t0.0.octets q2 in
    let g : Gap = record { reader_id = x.0.0.0; writer_id = x.0.0.1; gap_start = x.0.1; gap_list = set.0 } in
    let first = guard_some (ltb x.0.1 1) (Some g) s e2 in
    subst (λ (y : Gap). IsKnownKind 8 flags body (submessages.Gap y)) (some_is g s first.1) (record {
      kind = refl;
      flags_are = tt;
      body_is = record { from_set = x.1; rest = set.1; head = t0.0.parts; set = t1.reads };
      valid = record { reader = t0.1.0.0; writer = t0.1.0.1; first = ltb-false _ _ first.0; small = t0.1.1 };
    })))

gap_only : (flags : ℕ) (g : Gap) (body : List ℕ) → IsKnownKind 8 flags body (submessages.Gap g)
    → gap_at flags body ≡ Some g
unfolding gap_at
gap_only flags g body k =
    let x = k.body_is in
    let first : ltb g.gap_start 1 ≡ false = le-ltb _ _ k.valid.first in
    ap (gap_at flags) x.head
    ∙ rw (
      (field_both (field_both field_entity_id field_entity_id) (field_sn (order_of flags))).again
          ((g.reader_id, g.writer_id), g.gap_start) x.from_set ((k.valid.reader, k.valid.writer), k.valid.small),
      set_only (order_of flags) x.from_set g.gap_list x.rest x.set,
      first,
    ) refl

-- ---- each submessage

-- what is known of the submessage that a part of a kind makes
of_kind : {X : Type 0} (id number flags : ℕ) (body : List ℕ) (s : Submessage) (make : X → Submessage) (part : Option X)
    → ((x : X) → part ≡ Some x → IsKnownKind number flags body (make x)) → id ≡ number → option_map make part ≡ Some s
    → IsKnownKind id flags body s
of_kind id number flags body s make part found is e =
    mapped_some make part s e
    (λ x q r. subst (λ (n : ℕ). IsKnownKind n flags body s) (sym is)
    (subst (λ (y : Submessage). IsKnownKind number flags body y) r (found x q)))

pub known_found : (id flags : ℕ) (body : List ℕ) (s : Submessage) → AreOctets body → known_at id flags body ≡ Some s
    → IsKnownKind id flags body s
unfolding known_at
known_found id flags body s octets e =
    let at_8 = cond (eqb id 8) (option_map submessages.Gap (gap_at flags body)) None in
    let at_6 = cond (eqb id 6) (option_map submessages.AckNack (acknack_at flags body)) at_8 in
    let at_21 = cond (eqb id 21) (option_map submessages.Data (data_at flags body)) at_6 in
    let at_7 = cond (eqb id 7) (option_map submessages.Heartbeat (heartbeat_at flags body)) at_21 in
    let at_9 = cond (eqb id 9) (option_map submessages.InfoTs (info_ts_at flags body)) at_7 in
    let at_14 = cond (eqb id 14) (option_map submessages.InfoDst (info_dst_at body)) at_9 in
    cond_is {P = IsKnownKind id flags body s} (eqb id 1) (Some submessages.Pad) at_14 (Some s) e
    (λ is p. subst (λ (y : Submessage). IsKnownKind id flags body y) (some_is submessages.Pad s p)
    (record { kind = eqb-true id 1 is; flags_are = tt; body_is = tt; valid = tt }))
    (λ _ e0.
    cond_is {P = IsKnownKind id flags body s} (eqb id 14) _ at_9 (Some s) e0
    (λ is p. of_kind id 14 flags body s submessages.InfoDst (info_dst_at body)
    (λ x. info_dst_found flags body x octets) (eqb-true id 14 is) p) (λ _ e1.
    cond_is {P = IsKnownKind id flags body s} (eqb id 9) _ at_7 (Some s) e1
    (λ is p. of_kind id 9 flags body s submessages.InfoTs (info_ts_at flags body)
    (λ x. info_ts_found flags body x octets) (eqb-true id 9 is) p) (λ _ e2.
    cond_is {P = IsKnownKind id flags body s} (eqb id 7) _ at_21 (Some s) e2
    (λ is p. of_kind id 7 flags body s submessages.Heartbeat (heartbeat_at flags body)
    (λ x. heartbeat_found flags body x octets) (eqb-true id 7 is) p) (λ _ e3.
    cond_is {P = IsKnownKind id flags body s} (eqb id 21) _ at_6 (Some s) e3
    (λ is p. of_kind id 21 flags body s submessages.Data (data_at flags body)
    (λ x q. let f = data_found flags body x octets q in
    record { kind = refl; flags_are = f.standard; body_is = f.reads; valid = f.valid }) (eqb-true id 21 is) p)
    (λ _ e4.
    cond_is {P = IsKnownKind id flags body s} (eqb id 6) _ at_8 (Some s) e4
    (λ is p. of_kind id 6 flags body s submessages.AckNack (acknack_at flags body)
    (λ x. acknack_found flags body x octets) (eqb-true id 6 is) p) (λ _ e5.
    cond_is {P = IsKnownKind id flags body s} (eqb id 8) _ None (Some s) e5
    (λ is p. of_kind id 8 flags body s submessages.Gap (gap_at flags body) (λ x. gap_found flags body x octets)
    (eqb-true id 8 is) p) (λ _ e6. absurd cc)))))))

pub known_only : (id flags : ℕ) (body : List ℕ) (s : Submessage) → IsKnownKind id flags body s
    → known_at id flags body ≡ Some s
unfolding known_at info_dst_at info_ts_at
known_only id flags body submessages.Pad k = rw k.kind refl
known_only id flags body (submessages.InfoDst prefix) k =
    rw (k.kind, k.body_is.1, field_prefix.again prefix k.body_is.0 k.valid) refl
known_only id flags body (submessages.InfoTs None) k = rw (k.kind, k.flags_are) refl
known_only id flags body (submessages.InfoTs (Some n)) k =
    rw k.kind (ap (option_map submessages.InfoTs)
    (moment_only flags n body k.body_is.0 k.flags_are k.valid k.body_is.1))
known_only id flags body (submessages.Heartbeat h) k =
    rw k.kind (ap (option_map submessages.Heartbeat)
    (heartbeat_only flags h body k.body_is.0 k.valid k.flags_are.0 k.flags_are.1 k.body_is.1))
known_only id flags body (submessages.Data d) k =
    rw k.kind (ap (option_map submessages.Data) (data_only flags d body k.flags_are k.body_is k.valid))
known_only id flags body (submessages.AckNack a) k =
    let same : IsKnownKind 6 flags body (submessages.AckNack a) =
    record { kind = refl; flags_are = k.flags_are; body_is = k.body_is; valid = k.valid } in
    rw k.kind (ap (option_map submessages.AckNack) (acknack_only flags a body same))
known_only id flags body (submessages.Gap g) k =
    let same : IsKnownKind 8 flags body (submessages.Gap g) =
    record { kind = refl; flags_are = k.flags_are; body_is = k.body_is; valid = k.valid } in
    rw k.kind (ap (option_map submessages.Gap) (gap_only flags g body same))
known_only id flags body (submessages.Other i) k = absurd k.valid

pub Reads-from_known : (id flags : ℕ) (body : List ℕ) (s : Submessage) → IsKnownKind id flags body s
    → Reads id flags body s
Reads-from_known id flags body submessages.Pad k = k
Reads-from_known id flags body (submessages.InfoDst prefix) k = k
Reads-from_known id flags body (submessages.InfoTs moment) k = k
Reads-from_known id flags body (submessages.Heartbeat h) k = k
Reads-from_known id flags body (submessages.Data d) k = k
Reads-from_known id flags body (submessages.AckNack a) k = k
Reads-from_known id flags body (submessages.Gap g) k = k
Reads-from_known id flags body (submessages.Other i) k = absurd k.valid

pub Reads-found : (o : Option Submessage) (id flags : ℕ) (body : List ℕ) → AreOctets body → o ≡ known_at id flags body
    → Reads id flags body (unwrap_or o (submessages.Other id))
Reads-found None id flags body octets e = (refl, λ s k. let found = known_only id flags body s k in cc)
Reads-found (Some s) id flags body octets e =
    Reads-from_known id flags body s (known_found id flags body s octets (sym e))

-- a submessage that is known, or another one
reads_cases : (id flags : ℕ) (body : List ℕ) (s : Submessage) → Reads id flags body s
    → IsKnownKind id flags body s ⊎ ((s ≡ submessages.Other id) × ((t : Submessage) → IsKnownKind id flags body t → ⊥))
reads_cases id flags body submessages.Pad r = inl r
reads_cases id flags body (submessages.InfoDst prefix) r = inl r
reads_cases id flags body (submessages.InfoTs moment) r = inl r
reads_cases id flags body (submessages.Heartbeat h) r = inl r
reads_cases id flags body (submessages.Data d) r = inl r
reads_cases id flags body (submessages.AckNack a) r = inl r
reads_cases id flags body (submessages.Gap g) r = inl r
reads_cases id flags body (submessages.Other i) r = inr (ap submessages.Other r.0, r.1)

pub reads_one : (id flags : ℕ) (body : List ℕ) (s t : Submessage) → Reads id flags body s → Reads id flags body t
    → s ≡ t
reads_one id flags body s t p q =
    elim (reads_cases id flags body s p) [
      | inl a ↦ elim (reads_cases id flags body t q) [
        | inl b ↦ some_is s t (sym (known_only id flags body s a) ∙ known_only id flags body t b)
        | inr b ↦ absurd (b.1 s a)
      ]
      | inr a ↦ elim (reads_cases id flags body t q) [
        | inl b ↦ absurd (a.1 t b)
        | inr b ↦ a.0 ∙ sym b.0
      ]
    ]

-- ---- the kinds that speak to a receiver alone

-- a body that is read is that of an INFO_DST
pub info_dst_if : (o : Option GuidPrefix) (body : List ℕ) → AreOctets body → o ≡ info_dst_at body
    → IfSome o (λ prefix. (flags : ℕ) → Reads 14 flags body (submessages.InfoDst prefix))
info_dst_if None body octets e = tt
info_dst_if (Some prefix) body octets e = λ flags. info_dst_found flags body prefix octets (sym e)

-- one that is not read is that of none
pub no_info_dst : (o : Option GuidPrefix) (body : List ℕ) → o ≡ info_dst_at body
    → IfNone o ((flags : ℕ) (prefix : GuidPrefix) → Reads 14 flags body (submessages.InfoDst prefix) → ⊥)
unfolding known_at
no_info_dst None body e = λ flags prefix k.
    let found : option_map submessages.InfoDst (info_dst_at body) ≡ Some (submessages.InfoDst prefix) =
    known_only 14 flags body (submessages.InfoDst prefix) k in
    let none : option_map submessages.InfoDst (info_dst_at body) ≡ None = ap (option_map submessages.InfoDst) (sym e) in
    cc
no_info_dst (Some prefix) body e = tt

-- a body that is read is that of an INFO_TS
pub info_ts_if : (o : Option (Option ℕ)) (flags : ℕ) (body : List ℕ) → AreOctets body → o ≡ info_ts_at flags body
    → IfSome o (λ moment. Reads 9 flags body (submessages.InfoTs moment))
info_ts_if None flags body octets e = tt
info_ts_if (Some moment) flags body octets e = info_ts_found flags body moment octets (sym e)

-- one that is not read is that of none
pub no_info_ts : (o : Option (Option ℕ)) (flags : ℕ) (body : List ℕ) → o ≡ info_ts_at flags body
    → IfNone o ((moment : Option ℕ) → Reads 9 flags body (submessages.InfoTs moment) → ⊥)
unfolding known_at
no_info_ts None flags body e = λ moment k.
    let found : option_map submessages.InfoTs (info_ts_at flags body) ≡ Some (submessages.InfoTs moment) =
    known_only 9 flags body (submessages.InfoTs moment) k in
    let none : option_map submessages.InfoTs (info_ts_at flags body) ≡ None = ap (option_map submessages.InfoTs) (sym e) in
    cc
no_info_ts (Some moment) flags body e = tt
