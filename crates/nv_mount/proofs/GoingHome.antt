-- Blocks that go home one after another.
use Rattle.std.proofs.Common.{◌≡◌, ◌≢◌, ℕ, ◌+◌, ◌<◌, ◌≤◌, ◌==◌, ◌||◌, ◌⊎◌, inl, inr, ◌++◌, Bool, true, false, cond, nat_lt, List, [], ◌∷◌, Option, None, Some, length, map, get_or, arith, refl, ap, ap₂, sym, subst, ◌∙◌}
use Rattle.std.specs.List.{AllByRecursion, flat_map}
use Rattle.std.specs.Prelude.{option_to_list}
use Rattle.std.specs.Option.{option_or}
use Rattle.std.proofs.lemmas.Bool.{cases_lt, eq-eqb, eqb-false, eqb-true, false≢true}
use Rattle.std.proofs.lemmas.List.{append-nil, get_or-map}
use Rattle.std.proofs.lemmas.List.Concat.{flat_map-append}
use Rattle.nv_base.specs.Homes.{IsHome}
use Rattle.nv_base.specs.declared.geometry.GeometryNumbers.{GeometryNumbers}
use Rattle.nv_base.proofs.HomeRanges.{cuts}
use Rattle.nv_alloc.specs.Block.{BlockValue, block_by, numbers_of, put_block}
use Rattle.nv_alloc.specs.FreeList.{AreListsOf, FreeBlocks, free_blocks, is_home, no_list, with_home}
use Rattle.nv_alloc.specs.Numbers.{has, times}
use Rattle.nv_alloc.proofs.AllLists.{at_home, either_by, its_block, none_by, none_past}
use Rattle.nv_alloc.proofs.Lists.{has-first, has-times, times-append, times-cons}
use Rattle.nv_alloc.proofs.Shelves.{home_is}
use Rattle.nv_mount.specs.Build.{AreGivenHome, CanAllGoHome, block_at_home}
use Rattle.nv_mount.proofs.Marked.{has-append, numbers_append}

-- ---- one block

-- the block, if the number is its own
abbrev pub own : BlockValue → ℕ → Option BlockValue
own b n = cond (b.number == n) (Some b) None

pub not_own : (b : BlockValue) (n : ℕ) → b.number ≢ n → own b n ≡ None
not_own b n ne = go (b.number == n) refl where
  go : (c : Bool) → (b.number == n) ≡ c → cond c (Some b) None ≡ None
  go true q = absurd (ne (eqb-true b.number n q))
  go false q = refl

pub none_has : (bs : List BlockValue) (n : ℕ) → block_by bs n ≡ None → has (numbers_of bs) n ≡ false
none_has [] n h = refl
none_has (b ∷ bs) n h = go (b.number == n) h (none_has bs n) where
  go : (c : Bool) → cond c (Some b) (block_by bs n) ≡ None → (block_by bs n ≡ None → has (numbers_of bs) n ≡ false)
      → (c || has (numbers_of bs) n) ≡ false
  go true k more = cc
  go false k more = more k

pub absent_home : (lists : List FreeBlocks) (n : ℕ) → block_at_home n lists ≡ None → has (numbers_of (free_blocks lists)) n ≡ false
absent_home lists n h = none_has (free_blocks lists) n h

-- a block before another one of a list
before : (b x : BlockValue) (xs : List BlockValue) (n : ℕ) → (c : Bool)
    → cond c (Some b) (block_by (x ∷ xs) n) ≡ option_or (cond c (Some b) None) (block_by (x ∷ xs) n)
before b x xs n true = refl
before b x xs n false = refl

-- or behind it, where their numbers differ
behind : (b x : BlockValue) (rest : Option BlockValue) (xs : List BlockValue) (n : ℕ) → (x.number == b.number) ≡ false
    → rest ≡ option_or (own b n) (block_by xs n)
    → (c : Bool) → (x.number == n) ≡ c → (d : Bool) → (b.number == n) ≡ d
    → cond c (Some x) rest ≡ option_or (cond d (Some b) None) (cond c (Some x) (block_by xs n))
behind b x rest xs n ne is true e true f =
    absurd (eqb-false x.number b.number ne (eqb-true x.number n e ∙ sym (eqb-true b.number n f)))
behind b x rest xs n ne is true e false f = refl
behind b x rest xs n ne is false e d f = is ∙ ap (λ (c : Bool). option_or (cond c (Some b) None) (block_by xs n)) f

-- a list with a block whose number it does not have
by_put : (b : BlockValue) (bs : List BlockValue) (n : ℕ) → block_by bs b.number ≡ None
    → block_by (put_block b bs) n ≡ option_or (own b n) (block_by bs n)
by_put b [] n none = go (b.number == n) where
  go : (c : Bool) → cond c (Some b) None ≡ option_or (cond c (Some b) None) None
  go true = refl
  go false = refl
by_put b (x ∷ xs) n none = first (x.number == b.number) refl none (by_put b xs n) where
  placed : (x.number == b.number) ≡ false → block_by (put_block b xs) n ≡ option_or (own b n) (block_by xs n) → (t : Bool)
      → block_by (cond t (b ∷ x ∷ xs) (x ∷ put_block b xs)) n ≡ option_or (own b n) (block_by (x ∷ xs) n)
  placed e later true = before b x xs n (b.number == n)
  placed e later false = behind b x (block_by (put_block b xs) n) xs n e later (x.number == n) refl (b.number == n) refl

  first : (c : Bool) → (x.number == b.number) ≡ c → cond c (Some x) (block_by xs b.number) ≡ None
      → (block_by xs b.number ≡ None → block_by (put_block b xs) n ≡ option_or (own b n) (block_by xs n))
      → block_by (put_block b (x ∷ xs)) n ≡ option_or (own b n) (block_by (x ∷ xs) n)
  first true e h more = cc
  first false e h more = placed e (more h) (nat_lt b.number x.number)

in_list : (l : FreeBlocks) (b : BlockValue) (n : ℕ) → is_home l n ≡ true
    → (is_home l b.number ≡ true → block_by l.blocks b.number ≡ None)
    → block_by (with_home b l).blocks n ≡ option_or (own b n) (block_by l.blocks n)
in_list l b n at none = go (is_home l b.number) refl where
  go : (c : Bool) → is_home l b.number ≡ c
      → block_by (let r : FreeBlocks = cond c (record l { blocks = put_block b l.blocks }) l in r.blocks) n
      ≡ option_or (own b n) (block_by l.blocks n)
  go true q = by_put b l.blocks n (none q)
  go false q =
      sym (ap (λ (o : Option BlockValue). option_or o (block_by l.blocks n))
      (not_own b n (λ e. false≢true (sym q ∙ ap (is_home l) e ∙ at))))

-- a block that goes home is there, and each other number is as it was
pub given_home : (g : GeometryNumbers) (lists : List FreeBlocks) (b : BlockValue) → 0 < g.cpus → AreListsOf g lists
    → AreListsOf g (map (with_home b) lists) → b.number < g.blocks → block_at_home b.number lists ≡ None
    → (n : ℕ) → block_at_home n (map (with_home b) lists) ≡ option_or (own b n) (block_at_home n lists)
given_home g lists b some are still device none n = go (cases_lt n g.blocks) where
  new : List FreeBlocks
  new = map (with_home b) lists

  go : (n < g.blocks) ⊎ (g.blocks ≤ n) → block_at_home n new ≡ option_or (own b n) (block_at_home n lists)
  go (inr le) =
      none_past g new still n le
      ∙ sym (ap₂ (λ (x y : Option BlockValue). option_or x y) (not_own b n (λ e. omega (arith, e, device, le))) (none_past g lists are n le))
  go (inl lt) =
      let one = (cuts g.blocks g.cpus some).once n lt in
      let within : one.home < length lists = omega (arith, one.is_cpu, are.cpus) in
      let list = get_or lists one.home no_list in
      let l = are.each one.home one.is_cpu in
      let there : (n : ℕ) → is_home list n ≡ true → IsHome g.blocks g.cpus one.home n =
      λ m q. let range = home_is list.start list.end m q in record {
        from = subst (λ (s : ℕ). s ≤ m) l.start range.0;
        below = subst (λ (s : ℕ). m < s) l.end range.1;
      } in
      its_block g new still n one.home lt one.is_cpu one.is_home
      ∙ ap (λ (x : FreeBlocks). block_by x.blocks n) (get_or-map (with_home b) lists one.home no_list no_list within)
      ∙ in_list list b n (at_home g lists are n one.home lt one.is_cpu one.is_home)
      (λ q. sym (its_block g lists are b.number one.home device one.is_cpu (there b.number q)) ∙ none)
      ∙ sym (ap (option_or (own b n)) (its_block g lists are n one.home lt one.is_cpu one.is_home))

-- ---- several

has_either : (xs ys : List BlockValue) (n : ℕ) → has (numbers_of (xs ++ ys)) n ≡ (has (numbers_of xs) n || has (numbers_of ys) n)
has_either xs ys n = ap (λ (ns : List ℕ). has ns n) (numbers_append xs ys) ∙ has-append (numbers_of xs) (numbers_of ys) n

times_either : (xs ys : List BlockValue) (n : ℕ) → times n (numbers_of (xs ++ ys)) ≡ times n (numbers_of xs) + times n (numbers_of ys)
times_either xs ys n = ap (times n) (numbers_append xs ys) ∙ times-append n (numbers_of xs) (numbers_of ys)

all_front : {X : Type 0} (P : X → Type 0) (xs ys : List X) → AllByRecursion P (xs ++ ys) → AllByRecursion P xs
all_front P [] ys h = tt
all_front P (x ∷ xs) ys h = (h.0, all_front P xs ys h.1)

all_last : {X : Type 0} (P : X → Type 0) (xs : List X) (y : X) → AllByRecursion P (xs ++ y ∷ []) → P y
all_last P [] y h = h.0
all_last P (x ∷ xs) y h = all_last P xs y h.1

-- the first block of several is in none of the others
rest_without : (b : BlockValue) (bs : List BlockValue) (n : ℕ) → times n (numbers_of (b ∷ bs)) ≤ 1 → (b.number == n) ≡ true
    → has (numbers_of bs) n ≡ false
rest_without b bs n once e = has-times n (numbers_of bs) (go (times-cons n b.number (numbers_of bs))) where
  one : times n (b.number ∷ []) ≡ 1
  one = rw e refl

  go : times n (numbers_of (b ∷ bs)) ≡ times n (b.number ∷ []) + times n (numbers_of bs) → times n (numbers_of bs) ≡ 0
  go k = omega (arith, k, one, once)

-- what remains once the first block has gone home
module _ (g : GeometryNumbers) (b : BlockValue) (bs : List BlockValue) (lists new : List FreeBlocks)
    (can : CanAllGoHome g (b ∷ bs) lists) (homes : AreListsOf g new)
    (each : (n : ℕ) → block_at_home n new ≡ option_or (own b n) (block_at_home n lists)) where
  others : (n : ℕ) → has (numbers_of bs) n ≡ true → b.number ≢ n
  others n there e =
      false≢true (sym (rest_without b bs n (can.once n) (eq-eqb b.number n e)) ∙ there)

  pub can_rest : CanAllGoHome g bs new
  can_rest = record {
    homes = homes;
    device = can.device.1;
    sized = can.sized.1;
    once = λ n. let k = times-cons n b.number (numbers_of bs) in omega (arith, k, can.once n);
    away = λ n there.
        each n ∙ ap₂ (λ (x y : Option BlockValue). option_or x y) (not_own b n (others n there)) (can.away n (rw there (either_way (b.number == n))));
  } where
    either_way : (c : Bool) → (c || true) ≡ true
    either_way true = refl
    either_way false = refl

  pub same_rest : (n : ℕ) → option_or (block_by bs n) (block_at_home n new) ≡ option_or (block_by (b ∷ bs) n) (block_at_home n lists)
  same_rest n = ap (option_or (block_by bs n)) (each n) ∙ go (b.number == n) refl where
    go : (c : Bool) → (b.number == n) ≡ c
        → option_or (block_by bs n) (option_or (cond c (Some b) None) (block_at_home n lists))
        ≡ option_or (cond c (Some b) (block_by bs n)) (block_at_home n lists)
    go true q =
        ap (λ (o : Option BlockValue). option_or o (Some b)) (none_by bs n (rest_without b bs n (can.once n) q))
    go false q = refl

-- the last block of several goes first
pub last_first : (g : GeometryNumbers) (b : BlockValue) (bs : List BlockValue) (lists : List FreeBlocks)
    → CanAllGoHome g (bs ++ b ∷ []) lists → CanAllGoHome g (b ∷ bs) lists
last_first g b bs lists can = record {
  homes = can.homes;
  device = (
    all_last (λ (x : BlockValue). x.number < g.blocks) bs b can.device,
    all_front (λ (x : BlockValue). x.number < g.blocks) bs (b ∷ []) can.device,
  );
  sized = (
    all_last (λ (x : BlockValue). length x.bytes ≡ g.block) bs b can.sized,
    all_front (λ (x : BlockValue). length x.bytes ≡ g.block) bs (b ∷ []) can.sized,
  );
  once = λ n.
      let k = times_either bs (b ∷ []) n in
      let j = times-cons n b.number (numbers_of bs) in omega (arith, k, j, can.once n);
  away = λ n there. can.away n (has_either bs (b ∷ []) n ∙ swap (has (numbers_of bs) n) (b.number == n) there);
} where
  swap : (x y : Bool) → (y || x) ≡ true → (x || (y || false)) ≡ true
  swap true y h = refl
  swap false true h = refl
  swap false false h = cc

pub last_by : (b : BlockValue) (bs : List BlockValue) (n : ℕ) → times n (numbers_of (bs ++ b ∷ [])) ≤ 1
    → block_by (bs ++ b ∷ []) n ≡ block_by (b ∷ bs) n
last_by b bs n once = either_by bs (b ∷ []) n ∙ go (b.number == n) refl where
  few : times n (numbers_of (b ∷ bs)) ≤ 1
  few =
      let k = times_either bs (b ∷ []) n in
      let j = times-cons n b.number (numbers_of bs) in omega (arith, k, j, once)

  or_none : (o : Option BlockValue) → option_or o None ≡ o
  or_none None = refl
  or_none (Some x) = refl

  go : (c : Bool) → (b.number == n) ≡ c → option_or (block_by bs n) (cond c (Some b) None) ≡ cond c (Some b) (block_by bs n)
  go true q = ap (λ (o : Option BlockValue). option_or o (Some b)) (none_by bs n (rest_without b bs n few q))
  go false q = or_none (block_by bs n)

-- ---- loops

-- `left` of all blocks are still to go home
pub record IsGoing (g : GeometryNumbers) (all left : List BlockValue) (start now : List FreeBlocks) : Type 0 where
  pub can : CanAllGoHome g left now
  pub same : (n : ℕ) → option_or (block_by left n) (block_at_home n now) ≡ option_or (block_by all n) (block_at_home n start)

pub going_init : (g : GeometryNumbers) (all : List BlockValue) (start : List FreeBlocks) → CanAllGoHome g all start
    → IsGoing g all all start start
going_init g all start can = record { can = can; same = λ n. refl }

pub going_first : (g : GeometryNumbers) (all : List BlockValue) (b : BlockValue) (left : List BlockValue) (start now new : List FreeBlocks)
    → IsGoing g all (b ∷ left) start now → AreListsOf g new
    → ((n : ℕ) → block_at_home n new ≡ option_or (own b n) (block_at_home n now)) → IsGoing g all left start new
going_first g all b left start now new is homes each = record {
  can = can_rest g b left now new is.can homes each;
  same = λ n. same_rest g b left now new is.can homes each n ∙ is.same n;
}

pub going_last : (g : GeometryNumbers) (all : List BlockValue) (b : BlockValue) (left : List BlockValue) (start now : List FreeBlocks)
    → IsGoing g all (left ++ b ∷ []) start now → IsGoing g all (b ∷ left) start now
going_last g all b left start now is = record {
  can = last_first g b left now is.can;
  same = λ n.
      ap (λ (o : Option BlockValue). option_or o (block_at_home n now)) (sym (last_by b left n (is.can.once n))) ∙ is.same n;
}

pub gone : (g : GeometryNumbers) (all : List BlockValue) (start now : List FreeBlocks) → IsGoing g all [] start now
    → AreGivenHome g all start now
gone g all start now is = record { homes = is.can.homes; each = is.same }

-- ---- the next block

-- a block that is to go home is not there yet
pub not_home : (g : GeometryNumbers) (b : BlockValue) (bs : List BlockValue) (lists : List FreeBlocks) → CanAllGoHome g (b ∷ bs) lists
    → has (numbers_of (free_blocks lists)) b.number ≡ false
not_home g b bs lists can =
    absent_home lists b.number (can.away b.number (has-first b.number (numbers_of bs)))

-- it is there once it was given
pub goes_home : (g : GeometryNumbers) (b : BlockValue) (bs : List BlockValue) (lists new : List FreeBlocks) → 0 < g.cpus
    → CanAllGoHome g (b ∷ bs) lists → new ≡ map (with_home b) lists → AreListsOf g new
    → (n : ℕ) → block_at_home n new ≡ option_or (own b n) (block_at_home n lists)
goes_home g b bs lists new some can is still n =
    ap (block_at_home n) is
    ∙ given_home g lists b some can.homes (subst (AreListsOf g) is still) can.device.0
    (can.away b.number (has-first b.number (numbers_of bs))) n

pub going_next : (g : GeometryNumbers) (all : List BlockValue) (b : BlockValue) (left : List BlockValue) (start now new : List FreeBlocks)
    → 0 < g.cpus → IsGoing g all (b ∷ left) start now → new ≡ map (with_home b) now → AreListsOf g new → IsGoing g all left start new
going_next g all b left start now new some is put still =
    going_first g all b left start now new is still (goes_home g b left now new some is.can put still)

-- ---- the place of a block

can_first : (g : GeometryNumbers) (b : BlockValue) (bs : List BlockValue) (lists : List FreeBlocks) → CanAllGoHome g (b ∷ bs) lists
    → CanAllGoHome g (b ∷ []) lists
can_first g b bs lists can = record {
  homes = can.homes;
  device = (can.device.0, tt);
  sized = (can.sized.0, tt);
  once = λ n. let k = times-cons n b.number (numbers_of bs) in omega (arith, k, can.once n);
  away = λ n there. can.away n (more (b.number == n) (has (numbers_of bs) n) there);
} where
  more : (x y : Bool) → (x || false) ≡ true → (x || y) ≡ true
  more true y h = refl
  more false y h = cc

-- the blocks of places
abbrev pub placed : List (Option BlockValue) → List BlockValue
placed places = flat_map option_to_list places

placed_last : (whole rest : List (Option BlockValue)) (place : Option BlockValue) → whole ≡ rest ++ place ∷ []
    → placed whole ≡ placed rest ++ option_to_list place
placed_last whole rest place is =
    ap placed is ∙ flat_map-append option_to_list rest (place ∷ [])
    ∙ ap (λ (bs : List BlockValue). placed rest ++ bs) (append-nil (option_to_list place))

-- the last place has a block that may go home, if it has one
pub can_place : (g : GeometryNumbers) (whole rest : List (Option BlockValue)) (place : Option BlockValue) (lists : List FreeBlocks)
    → whole ≡ rest ++ place ∷ [] → CanAllGoHome g (placed whole) lists → CanAllGoHome g (option_to_list place) lists
can_place g whole rest None lists is can = record { homes = can.homes; device = tt; sized = tt; once = λ n. omega arith; away = λ n there. cc }
can_place g whole rest (Some b) lists is can =
    can_first g b (placed rest) lists
    (last_first g b (placed rest) lists (subst (λ (bs : List BlockValue). CanAllGoHome g bs lists) (placed_last whole rest (Some b) is) can))

pub going_place : (g : GeometryNumbers) (all : List BlockValue) (whole rest : List (Option BlockValue)) (place : Option BlockValue)
    (start now new : List FreeBlocks) → whole ≡ rest ++ place ∷ [] → IsGoing g all (placed whole) start now
    → AreGivenHome g (option_to_list place) now new → IsGoing g all (placed rest) start new
going_place g all whole rest place start now new is going given =
    at_end place is given (subst (λ (bs : List BlockValue). IsGoing g all bs start now) (placed_last whole rest place is) going) where
      at_end : (place : Option BlockValue) → whole ≡ rest ++ place ∷ [] → AreGivenHome g (option_to_list place) now new
          → IsGoing g all (placed rest ++ option_to_list place) start now → IsGoing g all (placed rest) start new
      at_end None is given going =
          let same : IsGoing g all (placed rest) start now =
          subst (λ (bs : List BlockValue). IsGoing g all bs start now) (append-nil (placed rest)) going in
          record {
            can = record {
              homes = given.homes;
              device = same.can.device;
              sized = same.can.sized;
              once = same.can.once;
              away = λ n there. given.each n ∙ same.can.away n there;
            };
            same = λ n. ap (option_or (block_by (placed rest) n)) (given.each n) ∙ same.same n;
          }
      at_end (Some b) is given going =
          going_first g all b (placed rest) start now new (going_last g all b (placed rest) start now going) given.homes given.each
