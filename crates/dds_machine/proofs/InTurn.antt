-- The statuses of an entity are told in turn: each of these is one telling of `reader_told` or `writer_told`.
use Rattle.std.specs.Prelude.{ℕ}
use Rattle.dds_base.specs.declared.entity.Entity.TheVariants as entity
use Rattle.dds_machine.specs.Noticing.{data_raised, loss_raised, lost_raised, publication_raised, subscription_raised, told, turn_raised}
use Rattle.dds_machine.specs.Part.{Part, own_proxies, own_reader, own_writer}

-- SAMPLE_LOST of the reader of this number, if it was raised since the part was as before
abbrev pub lost_told : Part → ℕ → Part → Part
lost_told before n part = told part (entity.Reader n) (lost_raised (own_reader before n) (own_reader part n))

-- its DATA_AVAILABLE
abbrev pub data_told : Part → ℕ → Part → Part
data_told before n part = told part (entity.Reader n) (data_raised (own_reader before n) (own_reader part n))

-- its LIVELINESS_CHANGED
abbrev pub turn_told : Part → ℕ → Part → Part
turn_told before n part = told part (entity.Reader n) (turn_raised (own_reader before n) (own_reader part n))

-- its SUBSCRIPTION_MATCHED
abbrev pub subscription_told : Part → ℕ → Part → Part
subscription_told before n part = told part (entity.Reader n)
    (subscription_raised (own_proxies before n) (own_proxies part n) (own_reader part n))

-- LIVELINESS_LOST of the writer of this number
abbrev pub loss_told : Part → ℕ → Part → Part
loss_told before n part = told part (entity.Writer n) (loss_raised (own_writer before n) (own_writer part n))

-- its PUBLICATION_MATCHED
abbrev pub publication_told : Part → ℕ → Part → Part
publication_told before n part =
    told part (entity.Writer n) (publication_raised (own_writer before n) (own_writer part n))
