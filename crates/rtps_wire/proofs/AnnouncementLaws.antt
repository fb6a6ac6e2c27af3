-- The message that announces a write, by its octets: each submessage begins what is left, and nothing follows the last.
use Rattle.std.proofs.Common.{◌≡◌, ℕ, zero, suc, ◌+◌, ◌*◌, ◌/◌, ◌%◌, ◌^◌, ◌<◌, ◌≤◌, List, [], ◌∷◌, ◌++◌, length, get_or, Some, None, refl, sym, ap, ◌∙◌, append_assoc, append-nil, arith, inl}
use Rattle.std.specs.Prelude.{Bool, true, false, MatchBool, IfSome, Option}
use Rattle.std.specs.Option.{option_map}
use Rattle.std.specs.Int.{w16, w32}
use Rattle.std.proofs.lemmas.Nat.{le_bytes_4}
use Rattle.std.proofs.lemmas.List.{drop_at, get_or-drop}
use Rattle.dds_base.specs.declared.datum.Datum.{Datum}
use Rattle.dds_base.specs.declared.endianness.Endianness.TheVariants.{Little}
use Rattle.dds_base.specs.declared.key.Key.{Key}
use Rattle.dds_base.specs.declared.guid.EntityId.{EntityId}
use Rattle.dds_base.specs.declared.guid.GuidPrefix.{GuidPrefix}
use Rattle.dds_base.specs.DatumText.{ReadsDatum}
use Rattle.dds_base.specs.Fields.{number}
use Rattle.dds_base.proofs.FieldLaws.{AreOctets}
use Rattle.rtps_wire.specs.declared.data.ChangeBody.TheVariants.{Write}
use Rattle.rtps_wire.specs.declared.data.Data.{Data}
use Rattle.rtps_wire.specs.declared.submessage.Submessage.TheVariants as submessages
use Rattle.rtps_wire.specs.Data.{IsData, ReadsData}
use Rattle.rtps_wire.specs.FieldAt.{prefix_at}
use Rattle.rtps_wire.specs.Fields.{sn_text}
use Rattle.rtps_wire.specs.Frames.{runs_to_end}
use Rattle.rtps_wire.specs.Messages.{HasHeader, ReadsFirst, ReadsMessage}
use Rattle.rtps_wire.proofs.WireFields.{field_prefix, halves_text}

-- octets follow what stands in front of octets
pub octets_after : (front rest bytes : List ℕ) → bytes ≡ front ++ rest → AreOctets bytes → AreOctets rest
octets_after front rest bytes is octets i =
    let there : get_or bytes (length front + i) 0 ≡ get_or rest i 0 =
    ap (λ (xs : List ℕ). get_or xs (length front + i) 0) is
    ∙ sym (get_or-drop (length front) (front ++ rest) i 0)
    ∙ ap (λ (xs : List ℕ). get_or xs i 0) (drop_at front rest (length front) refl) in
    rw (← there) (octets (length front + i))

-- the prefix in front, if it was taken
pub prefix_if : {X : Type 0} (o : Option X) (f : X → GuidPrefix × List ℕ) (bytes : List ℕ)
    (P : GuidPrefix → List ℕ → Type 0) → AreOctets bytes → option_map f o ≡ prefix_at bytes
    → ((p : GuidPrefix) (rest : List ℕ) → bytes ≡ p.0 ++ rest → length p.0 ≡ 12 → P p rest)
    → IfSome o (λ x. P (f x).0 (f x).1)
prefix_if None f bytes P octets taken then = tt
prefix_if (Some x) f bytes P octets taken then =
    let k = field_prefix.takes bytes (f x).0 (f x).1 octets (sym taken) in
    then (f x).0 (f x).1 k.0.parts k.1

-- the header, as it is written
pub source_first : (bytes rest after body : List ℕ) (prefix : GuidPrefix) → bytes ≡ 82 ∷ 84 ∷ 80 ∷ 83 ∷ rest
    → rest ≡ 2 ∷ 5 ∷ 0 ∷ 0 ∷ after → after ≡ prefix.0 ++ body → length prefix.0 ≡ 12 → length bytes ≤ 65507
    → HasHeader bytes prefix body
source_first bytes rest after body prefix first second third len short = record {
  minor = 5;
  vendor = 0 ∷ 0 ∷ [];
  two = refl;
  prefix = len;
  header = first ∙ ap (λ (xs : List ℕ). 82 ∷ 84 ∷ 80 ∷ 83 ∷ xs) (second ∙ ap (λ (xs : List ℕ). 2 ∷ 5 ∷ 0 ∷ 0 ∷ xs) third);
  short = short;
}

-- an INFO_DST
pub destination_first : (bytes after rest : List ℕ) (prefix : GuidPrefix) → bytes ≡ 14 ∷ 1 ∷ 12 ∷ 0 ∷ after
    → after ≡ prefix.0 ++ rest → length prefix.0 ≡ 12 → ReadsFirst bytes (submessages.InfoDst prefix) rest
destination_first bytes after rest prefix head is len = (
  14,
  1,
  prefix.0,
  record {
    len = 12;
    small = omega arith;
    text = head ∙ ap (λ (xs : List ℕ). 14 ∷ 1 ∷ 12 ∷ 0 ∷ xs) is;
    extent = len;
  },
  record { kind = refl; flags_are = tt; body_is = ([], sym (append-nil prefix.0)); valid = len },
)

-- an INFO_TS of two halves
pub moment_first : (bytes after last rest : List ℕ) (high low : ℕ) → bytes ≡ 9 ∷ 1 ∷ 8 ∷ 0 ∷ after
    → after ≡ number Little w32 high ++ last → last ≡ number Little w32 low ++ rest → high < 2 ^ 32 → low < 2 ^ 32
    → ReadsFirst bytes (submessages.InfoTs (Some (high * 2 ^ 32 + low))) rest
moment_first bytes after last rest high low head first second few less = (
  9,
  1,
  number Little w32 high ++ number Little w32 low,
  record {
    len = 8;
    small = omega arith;
    text =
        head ∙ ap (λ (xs : List ℕ). 9 ∷ 1 ∷ 8 ∷ 0 ∷ xs)
        (first ∙ ap (λ (xs : List ℕ). number Little w32 high ++ xs) second);
    extent = refl;
  },
  record {
    kind = refl;
    flags_are = refl;
    body_is = (
      [],
      sym (append-nil (number Little w32 high ++ number Little w32 low))
          ∙ ap (λ (xs : List ℕ). xs ++ []) (sym (halves_text Little high low less)),
    );
    valid = omega arith;
  },
)

four_octets : (a b c d : ℕ) → a < 256 → b < 256 → c < 256 → d < 256 → AreOctets (a ∷ b ∷ c ∷ d ∷ [])
four_octets a b c d p q r s zero = p
four_octets a b c d p q r s (suc zero) = q
four_octets a b c d p q r s (suc (suc zero)) = r
four_octets a b c d p q r s (suc (suc (suc zero))) = s
four_octets a b c d p q r s (suc (suc (suc (suc i)))) = omega arith

-- the header of a DATA of a write without parameters, as one number
pub data_word : (head len : ℕ) → head ≡ 1301 + len % 256 * 65536 + len / 256 % 256 * 16777216
    → number Little w32 head ≡ 21 ∷ 5 ∷ number Little w16 len
data_word head len is =
    le_bytes_4 (21 ∷ 5 ∷ number Little w16 len) head refl
    (four_octets 21 5 (len % 256) (len / 256 % 256) (omega arith) (omega arith) (omega arith) (omega arith)) is

either : {A B : Type 0} (b : Bool) → A → B → MatchBool b A B
either true x y = x
either false x y = y

-- the DATA of a write without parameters, that is so long as all that follows its header
pub data_last : (bytes body : List ℕ) (d : Data) → bytes ≡ 21 ∷ 5 ∷ number Little w16 (length body) ++ body
    → length body < 2 ^ 16 → ReadsData 5 body d → IsData d → ReadsFirst bytes (submessages.Data d) []
data_last bytes body d is small reads valid = (
  21,
  5,
  body,
  record { len = length body; small = small; text = is ∙ sym (append-nil _); extent = either (runs_to_end 21 (length body)) refl refl },
  record { kind = refl; flags_are = refl; body_is = reads; valid = valid },
)

-- the octets of a datum, as it is written
pub datum_reads : (payload from_key from_count from_value rest : List ℕ) (key : Key) (count : ℕ) (value : List ℕ)
    → payload ≡ 0 ∷ 1 ∷ 0 ∷ 0 ∷ from_key → from_key ≡ key.0 ++ from_count
    → from_count ≡ number Little w32 count ++ from_value → from_value ≡ value ++ rest
    → length key.0 ≡ 16 → length value ≡ count → count ≤ 65000
    → ReadsDatum payload (record { key = key; value = value })
datum_reads payload from_key from_count from_value rest key count value head keyed counted valued sixteen len few =
    record {
      order = Little;
      options = 0 ∷ 0 ∷ [];
      rest = rest;
      two = refl;
      text =
          head ∙ ap (λ (xs : List ℕ). 0 ∷ 1 ∷ 0 ∷ 0 ∷ xs)
          (keyed ∙ ap (λ (xs : List ℕ). key.0 ++ xs)
          (counted ∙ ap (λ (n : ℕ). number Little w32 n ++ from_value) (sym len)
          ∙ ap (λ (xs : List ℕ). number Little w32 (length value) ++ xs) valued)
          ∙ regroup key.0 (number Little w32 (length value)) value rest);
      valid = record { key = sixteen; value = omega arith };
    }
  where
    regroup : (k n v r : List ℕ) → k ++ (n ++ (v ++ r)) ≡ (k ++ n ++ v) ++ r
    regroup k n v r = simp append_assoc

in_row : (a b c d : List ℕ) → (a ++ b) ++ (c ++ d) ≡ (a ++ b ++ c) ++ d
in_row a b c d = simp append_assoc

-- the body of the DATA of a write without parameters
pub write_reads : (body after ids payload : List ℕ) (reader writer : EntityId) (sn : ℕ) (datum : Datum)
    → body ≡ 0 ∷ 0 ∷ 16 ∷ 0 ∷ after → after ≡ (reader.0 ++ writer.0) ++ ids → ids ≡ sn_text Little sn ++ payload
    → ReadsDatum payload datum
    → ReadsData 5 body (record {
      reader_id = reader;
      writer_id = writer;
      writer_sn = sn;
      content = record { body = Write datum; strength = None };
    })
write_reads body after ids payload reader writer sn datum head named numbered reads = record {
  extra = 0;
  skipped = [];
  from_parameters = payload;
  parameters = [];
  payload = payload;
  extra_small = omega arith;
  skipped_small = omega arith;
  text =
      head ∙ ap (λ (xs : List ℕ). 0 ∷ 0 ∷ 16 ∷ 0 ∷ xs)
      (named ∙ ap (λ (xs : List ℕ). (reader.0 ++ writer.0) ++ xs) numbered ∙ in_row reader.0 writer.0 (sn_text Little sn) payload);
  inline = (refl, refl);
  says = record { body = ((refl, refl), refl, refl, reads); strength = refl };
}

-- three submessages with nothing behind
pub announces : (bytes body first second : List ℕ) (prefix to : GuidPrefix) (moment : ℕ) (d : Data)
    → HasHeader bytes prefix body → ReadsFirst body (submessages.InfoDst to) first
    → ReadsFirst first (submessages.InfoTs (Some moment)) second → ReadsFirst second (submessages.Data d) []
    → ReadsMessage bytes (record {
      prefix = prefix;
      submessages = submessages.InfoDst to ∷ submessages.InfoTs (Some moment) ∷ submessages.Data d ∷ [];
    }) (length bytes)
announces bytes body first second prefix to moment d header dst ts last = record {
  body = body;
  left = [];
  header = header;
  submessages = (first, dst, (second, ts, ([], last, (inl (omega arith), refl))));
  stop = omega arith;
}

-- the DATA with which the bytes end, if it was read
pub last_if : (o : Option Data) (bytes body : List ℕ) → bytes ≡ 21 ∷ 5 ∷ number Little w16 (length body) ++ body
    → length body < 2 ^ 16 → IfSome o (λ d. ReadsData 5 body d) → IfSome o IsData
    → IfSome o (λ d. ReadsFirst bytes (submessages.Data d) [])
last_if None bytes body is small reads valid = tt
last_if (Some d) bytes body is small reads valid = data_last bytes body d is small reads valid
