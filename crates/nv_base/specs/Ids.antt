-- The order of entry ids: by commit, and within one commit by place.
use Rattle.std.specs.Prelude.{◌≡◌, ◌<◌, ◌⊎◌, ◌↔◌, ◌==◌, ◌&&◌, ◌||◌, Bool, IsTrue, nat_lt}
use Rattle.nv_base.specs.declared.numbers.EntryId.{EntryId}

-- an id stands before another: by commit, and within one commit by place
abbrev pub IsIdBefore : EntryId → EntryId → Type 0
IsIdBefore a b = (a.commit < b.commit) ⊎ ((a.commit ≡ b.commit) × (a.place < b.place))

-- the test whether an id stands before another
abbrev pub is_id_before : EntryId → EntryId → Bool
is_id_before a b = nat_lt a.commit b.commit || ((a.commit == b.commit) && nat_lt a.place b.place)

-- the test whether two ids are one
abbrev pub is_same_id : EntryId → EntryId → Bool
is_same_id a b = (a.commit == b.commit) && (a.place == b.place)

-- entry ids stand in one order, and the two tests decide it
pub record AreIdsOrdered : Type 0 where
  -- of two ids one stands before the other, or they are one
  pub some_order : (a b : EntryId) → IsIdBefore a b ⊎ (a ≡ b) ⊎ IsIdBefore b a
  -- no id stands before itself
  pub not_itself : (a : EntryId) → IsIdBefore a a → ⊥
  -- an id stands before all those that stand behind a later one
  pub along : (a b c : EntryId) → IsIdBefore a b → IsIdBefore b c → IsIdBefore a c
  -- `is_id_before` passes exactly where the first id stands before the second
  pub before : (a b : EntryId) → IsTrue (is_id_before a b) ↔ IsIdBefore a b
  -- `is_same_id` passes exactly where the two ids are one
  pub same : (a b : EntryId) → IsTrue (is_same_id a b) ↔ (a ≡ b)
