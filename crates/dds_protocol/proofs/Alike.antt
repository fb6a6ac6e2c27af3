-- Parts that differ in what was seen of statuses, in what is watched and in listeners, and in nothing else.
use Rattle.std.proofs.Common.{◌≡◌, ℕ, List, length, refl, ap, sym, ◌∙◌, subst, ⊎_elim}
use Rattle.dds_base.specs.declared.entity.Entity.{Entity}
use Rattle.dds_base.specs.declared.entity.Entity.TheVariants as entity
use Rattle.dds_base.specs.Written.{LookedAt, changes_of, counts_of}
use Rattle.dds_notices.specs.declared.notice.Status.{Status}
use Rattle.dds_notices.specs.declared.notice.Status.TheVariants.{PublicationMatched, SubscriptionMatched}
use Rattle.dds_notices.specs.Listeners.{Places}
use Rattle.dds_machine.specs.Calls.{with_written}
use Rattle.dds_machine.specs.Matching.{reader_looked_at, writer_looked_at}
use Rattle.dds_machine.specs.Noticing.{at_end, seen_by, told_of}
use Rattle.dds_machine.specs.Numbered.{numbered, with_numbered}
use Rattle.dds_machine.specs.Part.{Part, Reader, Rtps, Writer, no_reader, no_writer, own_proxies, own_reader, own_writer}
use Rattle.dds_protocol.proofs.AtEnds.{end_so}
use Rattle.dds_protocol.proofs.Growth.{WriterGrows, entered-grows, looked_at-grows, writer_on, writer_same}
use Rattle.dds_machine.proofs.Tables.{length-with_numbered, numbered-cases}

-- a writer has only been looked at since
pub record AlikeWriters (old new : Writer) : Type 0 where
  pub grows : WriterGrows old new
  pub rest : new ≡ record old { written = new.written; matches = new.matches }
  pub changes : changes_of new.written ≡ changes_of old.written
  pub counts : counts_of new.written ≡ counts_of old.written

pub writers_same : (w : Writer) → AlikeWriters w w
writers_same w = record { grows = writer_same w; rest = refl; changes = refl; counts = refl }

writers_on : (a b c : Writer) → AlikeWriters a b → AlikeWriters b c → AlikeWriters a c
writers_on a b c f g = record {
  grows = writer_on a b c f.grows g.grows;
  rest = g.rest ∙ ap (λ (w : Writer). record w { written = c.written; matches = c.matches }) f.rest;
  changes = g.changes ∙ f.changes;
  counts = g.counts ∙ f.counts;
}

looked : (w : Writer) → AlikeWriters w (with_written w LookedAt)
looked w = record {
  grows = entered-grows w LookedAt;
  rest = refl;
  changes = refl;
  counts = refl;
}

looked_matches : (w : Writer) → AlikeWriters w (writer_looked_at w)
looked_matches w = record {
  grows = looked_at-grows w;
  rest = refl;
  changes = refl;
  counts = refl;
}

-- its matched readers are the same
pub alike_readers : (old new : Writer) → AlikeWriters old new → new.readers ≡ old.readers
alike_readers old new h = ap (λ (w : Writer). w.readers) h.rest

-- parts that are alike so
pub record AlikeParts (old new : Part) : Type 0 where
  pub count : length new.rtps.writers ≡ length old.rtps.writers
  pub writers : (n : ℕ) → AlikeWriters (own_writer old n) (own_writer new n)
  pub rows : new.rtps.readers ≡ old.rtps.readers
  pub moment : new.dds.moment ≡ old.dds.moment
  pub readers : length new.dds.readers ≡ length old.dds.readers
  pub qos : (n : ℕ) → (own_reader new n).qos ≡ (own_reader old n).qos
  pub happened : (n : ℕ) → (own_reader new n).happened ≡ (own_reader old n).happened

-- parts with the same ends and moment are
pub alike_by : (old new : Part) → new.rtps ≡ old.rtps → new.dds.moment ≡ old.dds.moment
    → new.dds.readers ≡ old.dds.readers → AlikeParts old new
alike_by old new rtps moment readers = record {
  count = ap (λ (r : Rtps). length r.writers) rtps;
  writers =
      λ n. subst (λ (r : Rtps). AlikeWriters (own_writer old n) (numbered r.writers n no_writer)) (sym rtps)
      (writers_same (own_writer old n));
  rows = ap (λ (r : Rtps). r.readers) rtps;
  moment = moment;
  readers = ap (λ (rs : List Reader). length rs) readers;
  qos = λ n. ap (λ (rs : List Reader). (numbered rs n no_reader).qos) readers;
  happened = λ n. ap (λ (rs : List Reader). (numbered rs n no_reader).happened) readers;
}

pub parts_same : (part : Part) → AlikeParts part part
parts_same part = alike_by part part refl refl refl

pub alike_on : (a b c : Part) → AlikeParts a b → AlikeParts b c → AlikeParts a c
alike_on a b c f g = record {
  count = g.count ∙ f.count;
  writers = λ n. writers_on (own_writer a n) (own_writer b n) (own_writer c n) (f.writers n) (g.writers n);
  rows = g.rows ∙ f.rows;
  moment = g.moment ∙ f.moment;
  readers = g.readers ∙ f.readers;
  qos = λ n. g.qos n ∙ f.qos n;
  happened = λ n. g.happened n ∙ f.happened n;
}

-- a value of the readers of a list, where one has other things seen
seen_apart : {X : Type 0} (f : Reader → X) (rs : List Reader) (n : ℕ) (r : Reader) → f r ≡ f (numbered rs n no_reader)
    → (k : ℕ)
    → f (numbered (with_numbered rs n r) k no_reader) ≡ f (numbered rs k no_reader)
seen_apart f rs n r same k =
    ⊎_elim (λ e. ap f e) (λ s. ap f s.1 ∙ (same ∙ ap (λ (j : ℕ). f (numbered rs j no_reader)) (sym s.0)))
    (numbered-cases rs n r k no_reader)

-- one writer was looked at, and listeners were told
writer_alike : (part : Part) (n : ℕ) (w : Writer) (listeners : Places) → AlikeWriters (own_writer part n) w
    → AlikeParts part (record part {
      rtps = record part.rtps { writers = with_numbered part.rtps.writers n w };
      dds = record part.dds { listeners = listeners };
    })
writer_alike part n w listeners alike =
    let ws : List Writer = part.rtps.writers in
    record {
      count = length-with_numbered ws n w;
      writers = λ k.
          ⊎_elim (λ e. subst (λ (x : Writer). AlikeWriters (numbered ws k no_writer) x) (sym e)
          (writers_same (numbered ws k no_writer)))
          (λ s.
          subst (λ (x : Writer). AlikeWriters (numbered ws k no_writer) x) (sym s.1)
          (subst (λ (j : ℕ). AlikeWriters (numbered ws j no_writer) w) (sym s.0) alike))
          (numbered-cases ws n w k no_writer);
      rows = refl;
      moment = refl;
      readers = refl;
      qos = λ k. refl;
      happened = λ k. refl;
    }

-- one reader was looked at, and listeners were told
reader_alike : (part : Part) (n : ℕ) (r : Reader) (listeners : Places) → r.qos ≡ (own_reader part n).qos
    → r.happened ≡ (own_reader part n).happened
    → AlikeParts part (record part {
      dds = record part.dds { readers = with_numbered part.dds.readers n r; listeners = listeners };
    })
reader_alike part n r listeners qos happened =
    let rs : List Reader = part.dds.readers in
    record {
      count = refl;
      writers = λ k. writers_same (own_writer part k);
      rows = refl;
      moment = refl;
      readers = length-with_numbered rs n r;
      qos = seen_apart (λ (x : Reader). x.qos) rs n r qos;
      happened = seen_apart (λ (x : Reader). x.happened) rs n r happened;
    }

told_alike : (part : Part) (e : Entity) (status : Status) → AlikeParts part (told_of part e status)
told_alike part entity.Participant status = alike_by part (told_of part entity.Participant status) refl refl refl
told_alike part (entity.Writer n) (PublicationMatched values) =
    writer_alike part n (writer_looked_at (own_writer part n))
    (told_of part (entity.Writer n) (PublicationMatched values)).dds.listeners (looked_matches (own_writer part n))
told_alike part (entity.Writer n) status =
    writer_alike part n (with_written (own_writer part n) LookedAt)
    (told_of part (entity.Writer n) status).dds.listeners (looked (own_writer part n))
told_alike part (entity.Reader n) (SubscriptionMatched values) =
    reader_alike part n (reader_looked_at (own_proxies part n) (own_reader part n))
    (told_of part (entity.Reader n) (SubscriptionMatched values)).dds.listeners refl refl
told_alike part (entity.Reader n) status =
    reader_alike part n (record (own_reader part n) { seen = seen_by (own_reader part n) status })
    (told_of part (entity.Reader n) status).dds.listeners refl refl

-- a part at the end of an event, and before its listeners were told
pub end_alike : (before part : Part) → AlikeParts part (at_end before part)
end_alike before part = end_so AlikeParts parts_same alike_on told_alike before part
