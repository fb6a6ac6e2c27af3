-- What a peer knows of the ends that its own are matched with: to which peers a writer sends.
--
-- RTPS 2.5, 8.4.7 (ReaderProxy), 8.4.10 (WriterProxy).
use Rattle.std.specs.Prelude.{ℕ, ◌+◌, Bool, if◌then◌else◌, List, [], ◌∷◌}
use Rattle.std.specs.List.{list_any}
use Rattle.dds_base.specs.declared.config.PeerConfig.{PeerConfig}
use Rattle.dds_base.specs.declared.config.ReaderConfig.{ReaderConfig}
use Rattle.dds_base.specs.Matched.{same_topic}
use Rattle.dds_ends.specs.declared.matching.Destination.{Destination}

-- some of these readers is of the topic
abbrev pub has_reader : ℕ → List ReaderConfig → Bool
has_reader topic rs = list_any (λ (r : ReaderConfig). same_topic r.topic topic) rs

-- the peers with a reader of the topic, each once; the first of these peers has this number
abbrev pub destinations : ℕ → ℕ → List PeerConfig → List Destination
destinations topic peer [] = []
destinations topic peer (p ∷ ps) =
    if has_reader topic p.readers
    then (record { peer = peer; prefix = p.prefix }) ∷ destinations topic (peer + 1) ps
    else destinations topic (peer + 1) ps
