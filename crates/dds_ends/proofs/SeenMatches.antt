-- A look at the matches of a reader, and what is raised of them.
use Rattle.std.proofs.Common.{◌≡◌, ℕ, ◌==◌, Bool, true, false, Some, None, eqb-true, refl, ap, sym, ◌∙◌, subst}
use Rattle.std.specs.Prelude.{if◌then◌else◌}
use Rattle.dds_base.specs.declared.status.MatchedStatus.{MatchedStatus}
use Rattle.dds_machine.specs.Matching.{attached_count, seen_matches, subscription_matched}
use Rattle.dds_machine.specs.Noticing.{subscription_raised}
use Rattle.dds_machine.specs.Part.{Matches}
use Rattle.dds_notices.specs.declared.notice.Status.TheVariants.{SubscriptionMatched}
use Rattle.dds_ends.specs.declared.marks.ReaderMark.{ReaderMark}
use Rattle.dds_ends.specs.declared.match_counts.MatchCounts.{MatchCounts}
use Rattle.dds_ends.specs.Kept.{ReaderKept}
use Rattle.dds_ends.specs.MatchCounts.{CountsFor}
use Rattle.dds_ends.specs.Noticing.{RaisesSo}
use Rattle.dds_ends.specs.Looking.{SeesMatches, TellsMatches}

-- a reader whose matches were looked at
pub sees_kept : (kept : ReaderKept) (matches : MatchCounts)
    → ((m : Matches) → CountsFor kept.matches m → CountsFor matches (seen_matches m kept.here))
    → SeesMatches kept (record kept { matches = matches })
sees_kept kept matches seen = record {
  same = refl;
  stands = λ proxies r tracked s. record {
    writers_are = s.writers_are;
    places = s.places;
    knows = s.knows;
    others = s.others;
    qos_is = s.qos_is;
    holds = s.holds;
    seen_is = s.seen_is;
    hows = s.hows;
    counts = subst (λ (n : ℕ). CountsFor matches (seen_matches r.matches n)) s.here_is (seen r.matches s.counts);
    here_is = s.here_is;
  };
}

-- it is matched with more or fewer than at this mark
pub raises_matches : (kept : ReaderKept) (mark : ReaderMark) (status : MatchedStatus) → TellsMatches kept status
    → (kept.here ≡ mark.here → ⊥)
    → RaisesSo (λ known was rows r. subscription_raised known rows r) kept mark (Some (SubscriptionMatched status))
raises_matches kept mark status tells other known before marked proxies r tracked s =
    ap (λ (v : MatchedStatus). Some (SubscriptionMatched v)) (tells proxies r tracked s)
    ∙ by (attached_count proxies == attached_count known) refl
  where
    by : (b : Bool) → (attached_count proxies == attached_count known) ≡ b
        → Some (SubscriptionMatched (subscription_matched proxies r))
        ≡ (if b then None else Some (SubscriptionMatched (subscription_matched proxies r)))
    by true e = absurd (other (s.here_is ∙ (eqb-true (attached_count proxies) (attached_count known) e ∙ sym marked.here)))
    by false e = refl
