-- What is seen of a reader as its statuses are looked at.
use Rattle.std.proofs.Common.{◌≡◌, ℕ, List, length, ap, sym, ◌∙◌, subst}
use Rattle.dds_base.specs.declared.happening.Happening.{Happening}
use Rattle.dds_base.specs.declared.qos.ReaderQos.{ReaderQos}
use Rattle.dds_base.specs.declared.status.LivelinessChangedStatus.{LivelinessChangedStatus}
use Rattle.dds_base.specs.declared.status.MatchedStatus.{MatchedStatus}
use Rattle.dds_base.specs.declared.status.SampleLostStatus.{SampleLostStatus}
use Rattle.dds_base.specs.Liveliness.{alive_count, not_alive_count}
use Rattle.dds_base.specs.Statuses.{lost_count}
use Rattle.dds_cache.specs.Standing.{qos_of}
use Rattle.dds_notices.specs.declared.notice.Status.{Status}
use Rattle.dds_notices.specs.declared.notice.Status.TheVariants.{SampleLost, DataAvailable, LivelinessChanged, SubscriptionMatched}
use Rattle.dds_base.specs.declared.endpoint.Endpoint.{Endpoint}
use Rattle.dds_machine.specs.Noticing.{seen_by}
use Rattle.dds_machine.specs.Part.{Reader, Seen, WriterProxy}
use Rattle.rtps_reader.specs.Tracked.{Tracked}
use Rattle.dds_ends.specs.Kept.{ReaderKept}
use Rattle.dds_ends.specs.Noticing.{SeesStatus}
use Rattle.dds_ends.specs.Looking.{SeesMatches, TellsLiveliness, TellsLost}
use Rattle.dds_ends.specs.Standing.{ReaderStands}
use Rattle.dds_ends.specs.Storing.{Holds}

-- another value of what was seen
sees_so : (k k' : ReaderKept) (status : Status) (seen : Seen) → k' ≡ record k { seen = seen }
    → ((r : Reader) → Holds k.store r.happened → r.qos ≡ qos_of k.store.cache → r.seen ≡ k.seen
    → seen ≡ seen_by r status)
    → (proxies : List WriterProxy) (r : Reader) (tracked : Endpoint → Tracked) → ReaderStands k proxies r tracked
    → ReaderStands k' proxies (record r { seen = seen_by r status }) tracked
sees_so k k' status seen is so proxies r tracked s =
    subst (λ (x : ReaderKept). ReaderStands x proxies (record r { seen = seen_by r status }) tracked) (sym is)
    (record {
      writers_are = s.writers_are;
      places = s.places;
      knows = s.knows;
      others = s.others;
      qos_is = s.qos_is;
      holds = s.holds;
      seen_is = sym (so r s.holds s.qos_is s.seen_is);
      hows = s.hows;
      counts = s.counts;
      here_is = s.here_is;
    })

pub sees_lost : (k k' : ReaderKept) (status : Status) (x v : SampleLostStatus) (now : Seen) → status ≡ SampleLost x
    → TellsLost k v now → k' ≡ record k { seen = now } → SeesStatus k status k'
sees_lost k k' status x v now is tells after =
    subst (λ (y : Status). SeesStatus k y k') (sym is)
    (sees_so k k' (SampleLost x) now after
    (λ r holds qos seen.
    (tells r.happened holds).1
    ∙ ap (λ (y : Seen). record y { lost = lost_count r.happened; entries_at_lost = length r.happened }) (sym seen)))

pub sees_data : (k k' : ReaderKept) (status : Status) (at : ℕ) → status ≡ DataAvailable
    → ((h : List Happening) → Holds k.store h → at ≡ length h)
    → k' ≡ record k { seen = record k.seen { entries_at_data = at } } → SeesStatus k status k'
sees_data k k' status at is tells after =
    subst (λ (y : Status). SeesStatus k y k') (sym is)
    (sees_so k k' DataAvailable (record k.seen { entries_at_data = at }) after
    (λ r holds qos seen.
    ap (λ (n : ℕ). record k.seen { entries_at_data = n }) (tells r.happened holds)
    ∙ ap (λ (y : Seen). record y { entries_at_data = length r.happened }) (sym seen)))

pub sees_turn : (k k' : ReaderKept) (status : Status) (x v : LivelinessChangedStatus) (now : Seen)
    → status ≡ LivelinessChanged x → TellsLiveliness k v now
    → k' ≡ record k { seen = now } → SeesStatus k status k'
sees_turn k k' status x v now is tells after =
    subst (λ (y : Status). SeesStatus k y k') (sym is)
    (sees_so k k' (LivelinessChanged x) now after
    (λ r holds qos seen.
    (tells r.happened holds).1
    ∙ (ap (λ (q : ReaderQos). record k.seen
    { alive = alive_count q r.happened; not_alive = not_alive_count q r.happened; entries_at_turn = length r.happened })
    (sym qos)
    ∙ ap (λ (y : Seen). record y {
      alive = alive_count r.qos r.happened;
      not_alive = not_alive_count r.qos r.happened;
      entries_at_turn = length r.happened;
    }) (sym seen))))

-- a look at SUBSCRIPTION_MATCHED
pub sees_matches : (k k' : ReaderKept) (status : Status) (x : MatchedStatus) → status ≡ SubscriptionMatched x
    → SeesMatches k k' → SeesStatus k status k'
sees_matches k k' status x is sees =
    subst (λ (y : Status). SeesStatus k y k') (sym is) (λ proxies r tracked s. sees.stands proxies r tracked s)
