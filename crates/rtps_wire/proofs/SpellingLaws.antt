-- What is written is read as itself.
use Rattle.std.proofs.Common.{◌≡◌, ℕ, zero, suc, ◌+◌, ◌^◌, ◌<◌, ◌≤◌, Bool, true, false, cond, eqb, ◌&&◌, not, List, [], ◌∷◌, ◌++◌, length, get_or, take, Some, None, refl, sym, subst, append_assoc, arith, ◌⊎◌, inl, inr, Option, ℤ}
use Rattle.std.specs.List.{flat_map, AllByRecursion}
use Rattle.std.specs.Int.{w16}
use Rattle.std.proofs.lemmas.List.{length-append}
use Rattle.dds_base.specs.declared.endianness.Endianness.TheVariants.{Little}
use Rattle.dds_base.specs.declared.key.Key.{Key}
use Rattle.dds_base.specs.Fields.{number}
use Rattle.dds_base.specs.declared.datum.Datum.{Datum}
use Rattle.dds_base.specs.DatumText.{IsDatum, ReadsDatum, ReadsKey, spelling_of_datum, spelling_of_key}
use Rattle.rtps_wire.specs.declared.data.ChangeBody.{ChangeBody}
use Rattle.rtps_wire.specs.declared.data.ChangeBody.TheVariants.{Write, Dispose, Unregister, DisposeUnregister}
use Rattle.rtps_wire.specs.declared.data.Data.{Data}
use Rattle.rtps_wire.specs.declared.message.Message.{Message}
use Rattle.rtps_wire.specs.declared.submessage.Submessage.{Submessage}
use Rattle.rtps_wire.specs.declared.submessage.Submessage.TheVariants as submessages
use Rattle.rtps_wire.specs.Fields.{has_flag, order_of, sn_text, count_text}
use Rattle.rtps_wire.specs.Frames.{runs_to_end, IsFrame}
use Rattle.rtps_wire.specs.Sets.{text_of_set, set_field_of}
use Rattle.rtps_wire.specs.Parameters.{Parameter, parameter_text, ReadsParameters}
use Rattle.rtps_wire.specs.Heartbeat.{heartbeat_text}
use Rattle.rtps_wire.specs.Gap.{gap_head}
use Rattle.rtps_wire.specs.AckNack.{text_of_acknack}
use Rattle.rtps_wire.specs.Data.{data_head, SaysContent, HasStrength, ReadsData, IsBody, IsStrength, content_flags, flags_with, strength_text, sentinel_text, text_of_end, text_of_write, text_with, text_of_content}
use Rattle.rtps_wire.specs.Submessages.{id_of, flags_of, body_of, padding, IsSpellable, IsKnownKind, spelling_of_submessage}
use Rattle.rtps_wire.specs.Messages.{ReadsAll, ReadsMessage, IsWritable, spelling_of, header_text}
use Rattle.rtps_wire.proofs.SetLaws.{reads_set}
use Rattle.rtps_wire.proofs.SetSpelling.{set_field_valid, set_again, text_of_set_len}
use Rattle.rtps_wire.proofs.TestLaws.{both_hold, match_false}
use Rattle.rtps_wire.proofs.FrameLaws.{to_end_len}
use Rattle.rtps_wire.proofs.SubmessageLaws.{Reads-from_known}
use Rattle.rtps_wire.proofs.MessageLaws.{header_length}

-- ---- flags

final_flag : (a b : Bool) → has_flag (1 + cond a 2 0 + cond b 4 0) 2 ≡ a
final_flag true true = refl
final_flag true false = refl
final_flag false true = refl
final_flag false false = refl

liveliness_flag : (a b : Bool) → has_flag (1 + cond a 2 0 + cond b 4 0) 4 ≡ b
liveliness_flag true true = refl
liveliness_flag true false = refl
liveliness_flag false true = refl
liveliness_flag false false = refl

is_little : (a b : Bool) → order_of (1 + cond a 2 0 + cond b 4 0) ≡ Little
is_little true true = refl
is_little true false = refl
is_little false true = refl
is_little false false = refl

one_flag : (a : Bool) → has_flag (1 + cond a 2 0) 2 ≡ a
one_flag true = refl
one_flag false = refl

one_little : (a : Bool) → order_of (1 + cond a 2 0) ≡ Little
one_little true = refl
one_little false = refl

-- ---- DATA

-- the parameter of a strength
abbrev strength_parameters : Option ℤ → List Parameter
strength_parameters None = []
strength_parameters (Some z) = record { id = 6; value = count_text Little z } ∷ []

strength_known : (strength : Option ℤ) (rest : List ℕ)
    → ReadsParameters Little (strength_text strength ++ (sentinel_text ++ rest)) (strength_parameters strength) rest
strength_known None rest = (0, omega arith, refl)
strength_known (Some z) rest = (
  sentinel_text ++ rest,
  record {
    small = omega arith;
    no_sentinel = λ e. omega (arith, e);
    short = omega arith;
    whole = refl;
    key_hash = λ e. omega (arith, e);
    status = λ e. refl;
    strength = λ e. refl;
  },
  refl,
  (0, omega arith, refl),
)

-- the parameters of a change that is no write
abbrev parameters_of : ℕ → Key → Option ℤ → List Parameter
parameters_of status k strength =
    record { id = 112; value = k.0 } ∷ record { id = 113; value = 0 ∷ 0 ∷ 0 ∷ status ∷ [] }
    ∷ strength_parameters strength

end_parameters : (status : ℕ) (k : Key) (strength : Option ℤ) (rest : List ℕ) → length k.0 ≡ 16
    → ReadsParameters Little (text_of_end status k strength ++ rest) (parameters_of status k strength)
    (spelling_of_key k ++ rest)
end_parameters status k strength rest len =
    let hash : Parameter = record { id = 112; value = k.0 } in
    let info : Parameter = record { id = 113; value = 0 ∷ 0 ∷ 0 ∷ status ∷ [] } in
    let last : List ℕ = strength_text strength ++ (sentinel_text ++ (spelling_of_key k ++ rest)) in (
      parameter_text Little info ++ last,
      record {
        small = omega arith;
        no_sentinel = λ e. omega (arith, e);
        short = omega (arith, len);
        whole = rw len
            refl;
        key_hash = λ e. len;
        status = λ e. omega (arith, e);
        strength = λ e. omega (arith, e);
      },
      regroup (parameter_text Little hash) (parameter_text Little info) (strength_text strength) sentinel_text
          (spelling_of_key k) rest,
      (
        last,
        record {
          small = omega arith;
          no_sentinel = λ e. omega (arith, e);
          short = omega arith;
          whole = refl;
          key_hash = λ e. omega (arith, e);
          status = λ e. refl;
          strength = λ e. refl;
        },
        refl,
        strength_known strength (spelling_of_key k ++ rest),
      ),
    )
  where
    regroup : (a b c d e f : List ℕ) → (a ++ b ++ c ++ d ++ e) ++ f ≡ a ++ (b ++ (c ++ (d ++ (e ++ f))))
    regroup a b c d e f = simp append_assoc

-- what a change that is no write says, where its status is as meant
end_known : (d : Data) (zeros : List ℕ) (status : ℕ) (k : Key) (strength : Option ℤ) → length k.0 ≡ 16
    → SaysContent 11 (parameters_of status k strength) (spelling_of_key k ++ zeros) d.content
    → ReadsData 11 (data_head Little 0 16 d.reader_id d.writer_id d.writer_sn
    ++ (text_of_end status k strength ++ zeros)) d
end_known d zeros status k strength len says = record {
  extra = 0;
  skipped = [];
  from_parameters = text_of_end status k strength ++ zeros;
  parameters = parameters_of status k strength;
  payload = spelling_of_key k ++ zeros;
  extra_small = omega arith;
  skipped_small = omega arith;
  text = refl;
  inline = end_parameters status k strength zeros len;
  says = says;
}

key_known : (k : Key) (zeros : List ℕ) → length k.0 ≡ 16 → ReadsKey (spelling_of_key k ++ zeros) k
key_known k zeros len =
    record { order = Little; options = 0 ∷ 0 ∷ []; rest = zeros; two = refl; text = refl; valid = len }

datum_known : (x : Datum) (zeros : List ℕ) → IsDatum x → ReadsDatum (spelling_of_datum x ++ zeros) x
datum_known x zeros valid =
    record { order = Little; options = 0 ∷ 0 ∷ []; rest = zeros; two = refl; text = refl; valid = valid }

end_strength : (status : ℕ) (k : Key) (strength : Option ℤ) → IsStrength strength
    → HasStrength Little (parameters_of status k strength) strength
end_strength status k None fits = refl
end_strength status k (Some z) fits = (fits, refl)

regroup_write : (a b c d : List ℕ) → (a ++ (b ++ c)) ++ d ≡ a ++ (b ++ (c ++ d))
regroup_write a b c d = simp append_assoc

body_known : (d : Data) (zeros : List ℕ) (b : ChangeBody) (strength : Option ℤ)
    → d.content ≡ record { body = b; strength = strength } → IsBody b → IsStrength strength
    → ReadsData (flags_with b strength) (data_head Little 0 16 d.reader_id d.writer_id d.writer_sn
    ++ (text_with b strength ++ zeros)) d
body_known d zeros (Write x) None is valid fits = record {
  extra = 0;
  skipped = [];
  from_parameters = spelling_of_datum x ++ zeros;
  parameters = [];
  payload = spelling_of_datum x ++ zeros;
  extra_small = omega arith;
  skipped_small = omega arith;
  text = refl;
  inline = (refl, refl);
  says =
      rw is (record { body = ((refl, refl), refl, refl, datum_known x zeros valid); strength = refl });
}
body_known d zeros (Write x) (Some z) is valid fits = record {
  extra = 0;
  skipped = [];
  from_parameters = text_of_write x (Some z) ++ zeros;
  parameters = strength_parameters (Some z);
  payload = spelling_of_datum x ++ zeros;
  extra_small = omega arith;
  skipped_small = omega arith;
  text = refl;
  inline =
      subst (λ (t : List ℕ). ReadsParameters Little t (strength_parameters (Some z)) (spelling_of_datum x ++ zeros))
      (sym (regroup_write (strength_text (Some z)) sentinel_text (spelling_of_datum x) zeros))
      (strength_known (Some z) (spelling_of_datum x ++ zeros));
  says =
      rw is (record { body = ((refl, refl), refl, refl, datum_known x zeros valid); strength = (fits, refl) });
}
body_known d zeros (Dispose k) strength is valid fits =
    end_known d zeros 1 k strength valid
    (rw is (record { body = ((refl, refl), key_known k zeros valid); strength = end_strength 1 k strength fits }))
body_known d zeros (Unregister k) strength is valid fits =
    end_known d zeros 2 k strength valid
    (rw is (record { body = ((refl, refl), key_known k zeros valid); strength = end_strength 2 k strength fits }))
body_known d zeros (DisposeUnregister k) strength is valid fits =
    end_known d zeros 3 k strength valid
    (rw is (record { body = ((refl, refl), key_known k zeros valid); strength = end_strength 3 k strength fits }))

standard : (b : ChangeBody) (strength : Option ℤ) → has_flag (flags_with b strength) 16 ≡ false
standard (Write d) None = refl
standard (Write d) (Some z) = refl
standard (Dispose k) strength = refl
standard (Unregister k) strength = refl
standard (DisposeUnregister k) strength = refl

-- ---- each submessage

spelled_known : (s : Submessage) → IsSpellable s → IsKnownKind (id_of s) (flags_of s) (body_of s) s
spelled_known submessages.Pad valid = record { kind = refl; flags_are = tt; body_is = tt; valid = tt }
spelled_known (submessages.InfoDst prefix) valid =
    record { kind = refl; flags_are = tt; body_is = (padding (length prefix.0), refl); valid = valid }
spelled_known (submessages.InfoTs None) valid = record { kind = refl; flags_are = refl; body_is = tt; valid = tt }
spelled_known (submessages.InfoTs (Some n)) valid =
    record { kind = refl; flags_are = refl; body_is = (padding 8, refl); valid = valid }
spelled_known (submessages.Heartbeat h) valid = record {
  kind = refl;
  flags_are = (final_flag h.final_flag h.liveliness_flag, liveliness_flag h.final_flag h.liveliness_flag);
  body_is = (padding (length (heartbeat_text Little h)), rw (is_little h.final_flag h.liveliness_flag) refl);
  valid = valid;
}
spelled_known (submessages.Data d) valid =
    let head = data_head Little 0 16 d.reader_id d.writer_id d.writer_sn in
    let zeros =
    padding (length (data_head Little 0 16 d.reader_id d.writer_id d.writer_sn ++ text_of_content d.content)) in
    record {
      kind = refl;
      flags_are = standard d.content.body d.content.strength;
      body_is =
          subst (λ (z : List ℕ). ReadsData (content_flags d.content) z d)
          (sym (append_assoc head (text_of_content d.content) zeros))
          (body_known d zeros d.content.body d.content.strength refl valid.1.body valid.1.strength);
      valid = valid.0;
    }
spelled_known (submessages.AckNack a) valid =
    let ids = a.reader_id.0 ++ a.writer_id.0 in
    let set = text_of_set a.reader_sn_state in
    let n = count_text Little a.count in
    let zeros = padding (length (text_of_acknack a)) in
    record {
      kind = refl;
      flags_are = one_flag a.final_flag;
      body_is = record {
        from_set = (set ++ n) ++ zeros;
        from_count = n ++ zeros;
        rest = zeros;
        ids = append_assoc ids (set ++ n) zeros;
        set =
            rw (one_little a.final_flag)
            (reads_set Little ((set ++ n) ++ zeros) a.reader_sn_state (n ++ zeros) (record {
              field = set_field_of a.reader_sn_state;
              valid = set_field_valid a.reader_sn_state valid.1;
              text = append_assoc set n zeros;
              set = set_again a.reader_sn_state valid.1;
            }));
        count = rw (one_little a.final_flag) refl;
      };
      valid = valid.0;
    }
spelled_known (submessages.Gap g) valid =
    let head = gap_head Little g in
    let set = text_of_set g.gap_list in
    let zeros = padding (length (gap_head Little g ++ text_of_set g.gap_list)) in
    record {
      kind = refl;
      flags_are = tt;
      body_is = record {
        from_set = set ++ zeros;
        rest = zeros;
        head = append_assoc head set zeros;
        set =
            record {
              field = set_field_of g.gap_list;
              valid = set_field_valid g.gap_list valid.1;
              text = refl;
              set = set_again g.gap_list valid.1;
            };
      };
      valid = valid.0;
    }
spelled_known (submessages.Other id) valid = absurd valid

-- ---- frames

-- a body is empty only at PAD and INFO_TS
body_positive : (s : Submessage) → IsSpellable s → ((id_of s ≡ 1) ⊎ (id_of s ≡ 9)) ⊎ (0 < length (body_of s))
body_positive submessages.Pad valid = inl (inl refl)
body_positive (submessages.InfoDst prefix) valid =
    inr (omega (arith, valid, length-append prefix.0 (padding (length prefix.0))))
body_positive (submessages.InfoTs moment) valid = inl (inr refl)
body_positive (submessages.Heartbeat h) valid =
    inr (omega (
      arith,
      length-append (heartbeat_text Little h)
          (padding (length (heartbeat_text Little h))),
      length-append
          (h.reader_id.0 ++ h.writer_id.0 ++ sn_text Little h.first_sn ++ sn_text Little h.last_sn)
          (count_text Little h.count),
    ))
body_positive (submessages.Data d) valid = inr (omega arith)
body_positive (submessages.AckNack a) valid =
    let text = text_of_acknack a in
    inr (omega (
      arith,
      valid.0.reader,
      length-append text (padding (length text)),
      length-append
          (a.reader_id.0 ++ a.writer_id.0)
          (text_of_set a.reader_sn_state ++ count_text Little a.count),
      length-append a.reader_id.0 a.writer_id.0,
    ))
body_positive (submessages.Gap g) valid =
    let text = gap_head Little g ++ text_of_set g.gap_list in
    inr (omega (
      arith,
      length-append text (padding (length text)),
      length-append (gap_head Little g)
          (text_of_set g.gap_list),
      text_of_set_len g.gap_list,
    ))
body_positive (submessages.Other id) valid = absurd valid

stays_within : (s : Submessage) (b : Bool) → IsSpellable s → runs_to_end (id_of s) (length (body_of s)) ≡ b → b ≡ false
stays_within s false valid e = refl
stays_within s true valid e =
    let front = both_hold (eqb (length (body_of s)) 0 && not (eqb (id_of s) 1)) (not (eqb (id_of s) 9)) e in
    elim (body_positive s valid) [
      | inl ids ↦ elim ids [
        | inl is ↦
            let no_pad : not (eqb (id_of s) 1) ≡ true =
            (both_hold (eqb (length (body_of s)) 0) (not (eqb (id_of s) 1)) front.0).1 in
            let one : false ≡ true = rw is at no_pad in
            absurd cc
        | inr is ↦
            let no_ts : not (eqb (id_of s) 9) ≡ true = front.1 in
            let one : false ≡ true = rw is at no_ts in
            absurd cc
      ]
      | inr lt ↦ absurd (omega (arith, lt, to_end_len (id_of s) (length (body_of s)) e))
    ]

spelled_frame : (s : Submessage) (rest : List ℕ) → IsSpellable s → length (body_of s) < 2 ^ 16
    → IsFrame (spelling_of_submessage s ++ rest) (id_of s) (flags_of s) (body_of s) rest
spelled_frame s rest valid lt =
    let len = length (body_of s) in
    record {
      len = length (body_of s);
      small = lt;
      text = refl;
      extent = match_false (runs_to_end (id_of s) len)
          (rest ≡ []) (length (body_of s) ≡ length (body_of s))
          (stays_within s (runs_to_end (id_of s) (length (body_of s))) valid refl) refl;
    }

body_le : (s : Submessage) → length (body_of s) ≤ length (spelling_of_submessage s)
body_le s = omega (arith, length-append (number (order_of (flags_of s)) w16 (length (body_of s))) (body_of s))

-- ---- messages

spelled_all : (ss : List Submessage) → AllByRecursion IsSpellable ss
    → length (flat_map spelling_of_submessage ss) ≤ 65507
    → ReadsAll (flat_map spelling_of_submessage ss) ss []
spelled_all [] valid short = (inl (omega arith), refl)
spelled_all (s ∷ ss) valid short =
    let len = length-append (spelling_of_submessage s) (flat_map spelling_of_submessage ss) in (
      flat_map spelling_of_submessage ss,
      (
        id_of s,
        flags_of s,
        body_of s,
        spelled_frame s (flat_map spelling_of_submessage ss) valid.0 (omega (arith, short, body_le s)),
        Reads-from_known (id_of s) (flags_of s) (body_of s) s (spelled_known s valid.0),
      ),
      spelled_all ss valid.1 (omega (arith, short)),
    )

pub message_again : (m : Message) → IsWritable m → ReadsMessage (spelling_of m) m (length (spelling_of m))
message_again m w =
    let len = length-append (header_text 5 (0 ∷ 0 ∷ []) m.prefix) (flat_map spelling_of_submessage m.submessages) in
    record {
      body = flat_map spelling_of_submessage m.submessages;
      left = [];
      header = record {
        minor = 5;
        vendor = 0 ∷ 0 ∷ [];
        two = refl;
        prefix = w.prefix;
        header = refl;
        short = w.short;
      };
      submessages = spelled_all m.submessages w.submessages
          (omega (arith, w.short));
      stop = omega arith;
    }

-- ---- what the writer asks

-- each of those that can be written can be
pub spellable_at : (ss : List Submessage) (i : ℕ) (s : Submessage)
    → AllByRecursion IsSpellable ss → i < length ss → s ≡ get_or ss i s → IsSpellable s
spellable_at [] i s valid lt e = absurd (omega arith)
spellable_at (x ∷ ss) zero s valid lt e = subst (λ (y : Submessage). IsSpellable y) (sym e) valid.0
spellable_at (x ∷ ss) (suc i) s valid lt e = spellable_at ss i s valid.1 (omega arith) e

-- ---- what the test asks

-- the submessages up to one take no more than all of them
front_le : (ss : List Submessage) (i : ℕ) (s : Submessage) → i < length ss → s ≡ get_or ss i s
    → length (flat_map spelling_of_submessage (take i ss)) + length (spelling_of_submessage s)
    ≤ length (flat_map spelling_of_submessage ss)
front_le [] i s lt e = absurd (omega arith)
front_le (x ∷ ss) zero s lt e =
    let len = length-append (spelling_of_submessage x) (flat_map spelling_of_submessage ss) in
    subst (λ (y : Submessage). length (flat_map spelling_of_submessage (take zero (x ∷ ss))) + length
    (spelling_of_submessage y) ≤ length (flat_map spelling_of_submessage (x ∷ ss))) (sym e) (omega arith)
front_le (x ∷ ss) (suc i) s lt e =
    let len = length-append (spelling_of_submessage x) (flat_map spelling_of_submessage ss) in
    let front = length-append (spelling_of_submessage x) (flat_map spelling_of_submessage (take i ss)) in
    omega (arith, front_le ss i s (omega arith) e)

pub front_short : (m : Message) (i : ℕ) (s : Submessage) → i < length m.submessages → s ≡ get_or m.submessages i s
    → IsWritable m
    → 20 + length (flat_map spelling_of_submessage (take i m.submessages)) + length (spelling_of_submessage s) ≤ 65507
front_short m i s lt e w =
    let all = length-append (header_text 5 (0 ∷ 0 ∷ []) m.prefix) (flat_map spelling_of_submessage m.submessages) in
    let header = header_length 5 (0 ∷ 0 ∷ []) m.prefix refl w.prefix in
    omega (arith, w.short, front_le m.submessages i s lt e)

pub too_long : (m : Message) (i : ℕ) (s : Submessage) → i < length m.submessages → s ≡ get_or m.submessages i s
    → 65507 < 20 + length (flat_map spelling_of_submessage (take i m.submessages)) + length (spelling_of_submessage s)
    → IsWritable m → ⊥
too_long m i s lt e past w = omega (arith, past, front_short m i s lt e w)
