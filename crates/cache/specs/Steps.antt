-- The inner steps of a cache as its code takes them, each by its definition in the rule of a cache.
use Rattle.std.specs.Prelude.{◌≡◌, ℕ, IfSome, Option}
use Rattle.std.specs.Option.{option_map}
use Rattle.level.specs.declared.level.Done.{Done}
use Rattle.level.specs.declared.level.Level.{Ghosts as Level}
use Rattle.level.specs.Level.{Outcome, Rules, block, capped, topped}
use Rattle.level.specs.Level.Answer.{accepted}
use Rattle.ways.specs.declared.mapping.Mapping.{Ghosts as Mapping}
use Rattle.ways.specs.declared.policy.Policy.{Ghosts as Policy}
use Rattle.ways.specs.declared.slot.Slot.{Slot}
use Rattle.ways.specs.Slots.{set_of, way_of}
use Rattle.pile.specs.Cache.{Cached, Ready, Evicted, with_below, lookup, flush, load_entry, ready_entry, evict, evict_block, evict_at, evict_all, after_read, after_write, after_return, cache_rules}
use Rattle.pile.specs.Table.{empties}
use Rattle.cache.specs.declared.cache.Cache.{Cache}

module _ {L M P : Type 0} (level : Level L) (policy : Policy P M) where
  abbrev pub StateOf : Type 0
  StateOf = Cached level.State policy.State

  -- what a cache holds, as its rule has it
  abbrev pub held : Cache L M P → StateOf
  held c = record { table = c.table.entries; order = policy.state c.policy; below = level.state c.below }

  -- A step took the cache from c to d, which holds s now, and `told` is what the code tells of the clocks that it spent. The lent memory is the same.
  pub record Spends (c d : Cache L M P) (s : StateOf) (spent told : ℕ) : Type 0 where
    pub clocks : told ≡ topped spent
    pub next : held d ≡ s
    pub lent : level.lent d.below ≡ level.lent c.below

  abbrev pub EvictedBy : (c d : Cache L M P) → Evicted level.State policy.State → (told : ℕ) → Type 0
  EvictedBy c d e told = Spends c d e.state e.spent told

  -- A call was accepted, and took the cache from c to d. The lent memory is the same.
  pub record Accepts (c d : Cache L M P) (o : Outcome StateOf) (done : Done) : Type 0 where
    pub answer : accepted done.value done.clocks ≡ capped o.answer
    pub next : held d ≡ o.next
    pub lent : level.lent d.below ≡ level.lent c.below

module _ {L M P : Type 0} (level : Level L) (mapping : Mapping M) (policy : Policy P M) where
  abbrev pub rules_of : Rules (StateOf level policy)
  rules_of = cache_rules level.rules mapping.shape policy.orders

  -- a cache as it is made over a level: every entry is empty
  abbrev pub empty_over : L → StateOf level policy
  empty_over below = record { table = empties; order = policy.orders.start mapping.shape.sets mapping.shape.ways; below = level.state below }

  -- a look for the block b: the way that holds it, told as the entry of that way in the set of b
  pub record LooksUp (c : Cache L M P) (b : ℕ) (r : Option Slot) : Type 0 where
    pub way : lookup level.rules mapping.shape policy.orders (held level policy c) b ≡ option_map (λ slot. way_of mapping.shape slot.index) r
    pub set : IfSome r (λ slot. set_of mapping.shape slot.index ≡ (mapping.shape.split b).0)

  -- an entry is written below if it is dirty
  abbrev pub Flushes : Cache L M P → (slot told : ℕ) → Cache L M P → Type 0
  Flushes c slot told d =
      let w = flush level.rules mapping.shape policy.orders (held level policy c) (set_of mapping.shape slot) (way_of mapping.shape slot) in
      Spends level policy c d (with_below (held level policy c) w.below) w.spent told

  -- the block b stands in the entry `slot` now
  pub record Readied (c d : Cache L M P) (b : ℕ) (r : Ready level.State policy.State) (slot told : ℕ) : Type 0 where
    pub set : set_of mapping.shape slot ≡ (mapping.shape.split b).0
    pub way : way_of mapping.shape slot ≡ r.way
    pub spends : Spends level policy c d r.state r.spent told

  abbrev pub Loads : Cache L M P → (address slot told : ℕ) → Cache L M P → Type 0
  Loads c address slot told d = Readied c d (block address) (load_entry level.rules mapping.shape policy.orders (held level policy c) address) slot told

  abbrev pub Readies : Cache L M P → (address slot told : ℕ) → Cache L M P → Type 0
  Readies c address slot told d = Readied c d (block address) (ready_entry level.rules mapping.shape policy.orders (held level policy c) address) slot told

  abbrev pub Evicts : Cache L M P → (slot told : ℕ) → Cache L M P → Type 0
  Evicts c slot told d = EvictedBy level policy c d (evict level.rules mapping.shape policy.orders (held level policy c) (set_of mapping.shape slot) (way_of mapping.shape slot)) told

  abbrev pub EvictsBlock : Cache L M P → (address told : ℕ) → Cache L M P → Type 0
  EvictsBlock c address told d = EvictedBy level policy c d (evict_block level.rules mapping.shape policy.orders (held level policy c) address) told

  abbrev pub EvictsAt : Cache L M P → (slot told : ℕ) → Cache L M P → Type 0
  EvictsAt c slot told d = EvictedBy level policy c d (evict_at level.rules mapping.shape policy.orders (held level policy c) slot) told

  abbrev pub EvictsAll : Cache L M P → (told : ℕ) → Cache L M P → Type 0
  EvictsAll c told d = EvictedBy level policy c d (evict_all level.rules mapping.shape policy.orders (held level policy c) 0 8) told

  abbrev pub Reads : Cache L M P → (address : ℕ) → Done → Cache L M P → Type 0
  Reads c address done d = Accepts level policy c d (after_read level.rules mapping.shape policy.orders (held level policy c) address) done

  abbrev pub Writes : Cache L M P → (address byte : ℕ) → Done → Cache L M P → Type 0
  Writes c address byte done d = Accepts level policy c d (after_write level.rules mapping.shape policy.orders (held level policy c) address byte) done

  abbrev pub Returns : Cache L M P → (address : ℕ) → Done → Cache L M P → Type 0
  Returns c address done d = Accepts level policy c d (after_return level.rules mapping.shape policy.orders (held level policy c) address) done
