-- The rule of a write-back cache over any level, with any mapping and any policy. Each inner step has a name of its own.
use Rattle.std.specs.Prelude.{◌≡◌, ℕ, zero, suc, ◌+◌, ◌*◌, ◌/◌, ◌%◌, cond, List, [], ◌∷◌, get_or, set, Some, None, Option, slice_index, slice_index_or, slice_set}
use Rattle.level.specs.declared.level.Access.TheVariants.{Read, Write}
use Rattle.level.specs.Level.{Call, Answer, Outcome, Rules, clocks, value, block, deeper}
use Rattle.level.specs.Level.Call.{read, write, return_block, return_all}
use Rattle.level.specs.Level.Answer.{accepted, refused}
use Rattle.ways.specs.Ways.{Shape, Orders, last_of}
use Rattle.pile.specs.declared.entry.Entry.{Entry}
use Rattle.pile.specs.Table.{empty, blank, empties, clean, with_byte, find}

-- the state of a cache: its eight entries, the order of its ways, and the level below
pub record Cached (S Q : Type 0) : Type 0 where
  pub table : List Entry
  pub order : Q
  pub below : S

abbrev pub with_below : {S Q : Type 0} → Cached S Q → S → Cached S Q
with_below s t = record { table = s.table; order = s.order; below = t }

-- ---- bytes go down and come up

-- after bytes were written below: the level below, and the clocks
pub record WrittenBack (S : Type 0) : Type 0 where
  pub below : S
  pub spent : ℕ

-- after bytes were read from below: also the row that they were read into
pub record Fetched (S : Type 0) : Type 0 where
  pub below : S
  pub spent : ℕ
  pub bytes : List ℕ

module _ {S : Type 0} (R : Rules S) where
  -- bytes are written below from the address a on, each for 1 clock plus the clocks of that write
  abbrev pub write_back : S → ℕ → List ℕ → WrittenBack S
  write_back s a [] = record { below = s; spent = 0 }
  write_back s a (b ∷ bs) =
      let o = R.step s (write a b) in
      let rest = write_back o.next (a + 1) bs in
      record { below = rest.below; spent = 1 + clocks o.answer + rest.spent }

  -- the given places of the block at a are read, each for 2 clocks plus the clocks of that read, into the same places of the row
  abbrev pub fetch : S → ℕ → (places row : List ℕ) → Fetched S
  fetch s a [] row = record { below = s; spent = 0; bytes = row }
  fetch s a (k ∷ ks) row =
      let o = R.step s (read (a + k)) in
      let rest = fetch o.next a ks (slice_set row k (value o.answer)) in
      record { below = rest.below; spent = 2 + clocks o.answer + rest.spent; bytes = rest.bytes }

-- the four places of a block, from place k on and round
abbrev pub rotation : ℕ → List ℕ
rotation k = k ∷ ((k + 1) % 4) ∷ ((k + 2) % 4) ∷ ((k + 3) % 4) ∷ []

-- the block of an address, the called byte first
abbrev pub fetch_block : {S : Type 0} → Rules S → S → ℕ → Fetched S
fetch_block R s a = fetch R s (4 * block a) (rotation (a % 4)) (0 ∷ 0 ∷ 0 ∷ 0 ∷ [])

-- ---- the inner steps

-- after the entry of a called byte was found or loaded: the state, the way of the entry, and the clocks
pub record Ready (S Q : Type 0) : Type 0 where
  pub state : Cached S Q
  pub way : ℕ
  pub spent : ℕ

-- after entries were emptied
pub record Evicted (S Q : Type 0) : Type 0 where
  pub state : Cached S Q
  pub spent : ℕ

module _ {S Q : Type 0} (R : Rules S) (m : Shape) (P : Orders Q) where
  -- the way that holds the block b, or none
  abbrev pub lookup : Cached S Q → ℕ → Option ℕ
  lookup s b = find s.table ((m.split b).0 * m.ways) (m.split b).1 0 m.ways

  abbrev pub entry_at : Cached S Q → ℕ → ℕ → Entry
  entry_at s b way = slice_index_or s.table ((m.split b).0 * m.ways + way) blank

  -- a dirty entry is written below; a clean one is not
  abbrev pub flush : Cached S Q → ℕ → ℕ → WrittenBack S
  flush s set way =
      let e = get_or s.table (set * m.ways + way) blank in
      cond e.dirty (write_back R s.below (4 * m.join (set, e.tag)) e.bytes) (record { below = s.below; spent = 0 })

  -- a hit: the policy is told
  abbrev pub hit_entry : Cached S Q → ℕ → ℕ → Ready S Q
  hit_entry s a way = record {
    state = record { table = s.table; order = P.hit s.order (m.split (block a)).0 way; below = s.below };
    way = way;
    spent = 1;
  }

  -- a miss: the last way of the order is flushed, the block comes into it, and the policy is told; a look before and one after
  abbrev pub load_entry : Cached S Q → ℕ → Ready S Q
  load_entry s a =
      let at = m.split (block a) in
      let way = last_of (P.order s.order at.0) in
      let w = flush s at.0 way in
      let f = fetch_block R w.below a in
      record {
        state = record {
          table = slice_set s.table (at.0 * m.ways + way) (clean at.1 f.bytes);
          order = P.loaded s.order at.0 way;
          below = f.below;
        };
        way = way;
        spent = 1 + w.spent + f.spent + 1;
      }

  abbrev pub ready_entry : Cached S Q → ℕ → Ready S Q
  ready_entry s a = elim (lookup s (block a)) [ Some way ↦ hit_entry s a way | None ↦ load_entry s a ]

  -- an entry is flushed, with one look more where it was dirty, and emptied, and the policy is told
  abbrev pub evict : Cached S Q → ℕ → ℕ → Evicted S Q
  evict s at way =
      let w = flush s at way in
      record {
        state = record { table = slice_set s.table (at * m.ways + way) empty; order = P.emptied s.order at way; below = w.below };
        spent = w.spent + cond (get_or s.table (at * m.ways + way) blank).dirty 1 0;
      }

  -- the entry of the block of an address, where there is one
  abbrev pub evict_block : Cached S Q → ℕ → Evicted S Q
  evict_block s a = elim (lookup s (block a)) [ Some way ↦ evict s (m.split (block a)).0 way | None ↦ record { state = s; spent = 0 } ]

  -- entry i of the table, where it is valid
  abbrev pub evict_at : Cached S Q → ℕ → Evicted S Q
  evict_at s i = cond (get_or s.table i blank).valid (evict s (i / m.ways) (i % m.ways)) (record { state = s; spent = 0 })

  -- `left` entries from entry i on, with a look at each
  abbrev pub evict_all : Cached S Q → (i left : ℕ) → Evicted S Q
  evict_all s i zero = record { state = s; spent = 0 }
  evict_all s i (suc left) =
      let e = evict_at s i in
      let rest = evict_all e.state (suc i) left in
      record { state = rest.state; spent = 1 + e.spent + rest.spent }

  -- ---- the calls, once the query below was not refused

  abbrev pub after_read : Cached S Q → ℕ → Outcome (Cached S Q)
  after_read s a =
      let r = ready_entry s a in
      record { answer = accepted (slice_index (entry_at r.state (block a) r.way).bytes (a % 4)) r.spent; next = r.state }

  abbrev pub after_write : Cached S Q → ℕ → ℕ → Outcome (Cached S Q)
  after_write s a v =
      let r = ready_entry s a in
      let e = entry_at r.state (block a) r.way in
      record {
        answer = accepted v r.spent;
        next = record {
          table = slice_set r.state.table ((m.split (block a)).0 * m.ways + r.way) (with_byte e (a % 4) v);
          order = r.state.order;
          below = r.state.below;
        };
      }

  -- one look, and the block return goes on to the level below
  abbrev pub after_return : Cached S Q → ℕ → Outcome (Cached S Q)
  after_return s a =
      let e = evict_block s a in
      let o = R.step e.state.below (return_block a) in
      record { answer = accepted 0 (1 + e.spent + clocks o.answer); next = with_below e.state o.next }

  -- entries 0 to 7, and then one full return below
  abbrev pub after_return_all : Cached S Q → Outcome (Cached S Q)
  after_return_all s =
      let e = evict_all s 0 8 in
      let o = R.step e.state.below return_all in
      record { answer = accepted 0 (e.spent + clocks o.answer); next = with_below e.state o.next }

  -- ---- the rule

  -- a refusal of the query is passed up, and the call ends
  abbrev pub unless_refused : Cached S Q → Answer → Outcome (Cached S Q) → Outcome (Cached S Q)
  unless_refused s (accepted v k) o = o
  unless_refused s (refused n a d) o = record { answer = deeper (refused n a d); next = s }

  abbrev pub cache_step : Cached S Q → Call → Outcome (Cached S Q)
  cache_step s (read a) = unless_refused s (R.ask s.below Read a) (after_read s a)
  cache_step s (write a v) = unless_refused s (R.ask s.below Write a) (after_write s a v)
  cache_step s (return_block a) = unless_refused s (R.ask s.below Read a) (after_return s a)
  cache_step s return_all = after_return_all s

  -- the byte of the valid entry, or else the byte seen below
  abbrev pub cache_seen : Cached S Q → ℕ → ℕ
  cache_seen s a = elim (lookup s (block a)) [ Some way ↦ get_or (entry_at s (block a) way).bytes (a % 4) 0 | None ↦ R.seen s.below a ]

  abbrev pub cache_rules : Rules (Cached S Q)
  cache_rules = record {
    size = λ s. R.size s.below;
    locked = λ s. R.locked s.below;
    home = λ s. R.home s.below;
    worst = λ s. 14 + 8 * R.worst s.below;
    seen = cache_seen;
    low = λ s. R.low s.below;
    ask = λ s k a. deeper (R.ask s.below k a);
    step = cache_step;
    fresh = λ s. (s.table ≡ empties) × (s.order ≡ P.start m.sets m.ways) × R.fresh s.below;
  }
