use Rattle.std.proofs.Common.{◌≡◌, ℕ, ◌+◌, ◌-◌, ◌<◌, ◌≤◌, ◌∙◌, AllPairs, List, ap, arith, length, length-take, slice_index_or, slice_set, subst, suc, sym, take}
use Rattle.std.specs.List.{insert}
use Rattle.std.proofs.lemmas.List.{get_or-set_other, get_or-set_same, length-set}
use Rattle.nv_calls.proofs.SlotLists.{rises, shifted, with_new}
use Rattle.nv_calls.proofs.slots.LockedSlots.with_new.Goals as goal

-- the numbers from a place on move up by one, and the new one stands there
shift : (inos moved : List ℕ) (place ino count : ℕ) → count < length inos → place ≤ length (take count inos)
    → length moved ≡ length inos
    → ((k : ℕ) (d : ℕ) → place + 1 ≤ k → k < place + 1 + (count - place)
    → slice_index_or moved k d ≡ slice_index_or inos (place + (k - (place + 1))) d)
    → ((k : ℕ) (d : ℕ) → k < place + 1 → slice_index_or moved k d ≡ slice_index_or inos k d)
    → take (count + 1) (slice_set moved place ino) ≡ insert (take count inos) place ino
shift inos moved place ino count room low many copied below =
    let within : place ≤ count = omega (arith, low, length-take count inos) in
    shifted inos (slice_set moved place ino) place ino count (record {
      room = room;
      within = within;
      many = length-set moved place ino ∙ many;
      front = λ k lt. get_or-set_other moved place k ino 0 (omega (arith, lt)) ∙ below k 0 (omega (arith, lt));
      here = get_or-set_same moved place ino 0 (omega (arith, room, within, many));
      rest = λ k le lt.
          let same : place + (suc k - (place + 1)) ≡ k = omega (arith, le) in
          get_or-set_other moved place (suc k) ino 0 (omega (arith, le)) ∙ copied (suc k) 0 (omega (arith, le)) (omega (arith, le, lt))
          ∙ ap (λ (j : ℕ). slice_index_or inos j 0) same;
    })

pub invariant_of-result : goal.invariant_of-result
invariant_of-result c =
    let inos = c.args.self.inos in
    let count = c.args.self.count in
    let long = length-take count inos in
    let is =
    shift inos c.copy_within.new.self c.args.place c.args.ino count (omega (arith, c.args.self.few, c.requires.few, long, c.well_formed))
    c.requires.within c.copy_within.ensures.len c.copy_within.ensures.by_index.0 c.copy_within.ensures.by_index.1 in
    record {
      few = omega (arith, c.args.self.few, c.requires.few, long);
      rising =
          subst (AllPairs (λ a b. a < b)) (sym is)
          (rises (take count inos) c.args.ino c.args.place c.requires.within c.args.self.rising c.requires.before c.requires.there);
    }

pub returns : goal.returns
returns c =
    let inos = c.args.self.inos in
    let count = c.args.self.count in
    shift inos c.copy_within.new.self c.args.place c.args.ino count
    (omega (arith, c.args.self.few, c.requires.few, length-take count inos, c.well_formed))
    c.requires.within c.copy_within.ensures.len c.copy_within.ensures.by_index.0 c.copy_within.ensures.by_index.1
    ∙ sym (with_new (take count inos) c.args.ino c.args.place c.requires.within c.requires.before c.requires.there)
