-- What holds of a chain still holds once it has one more entry, one more page, or some of them less.
use Rattle.std.proofs.Common.{◌≡◌, ℕ, zero, suc, ◌+◌, ◌-◌, ◌*◌, ◌<◌, ◌≤◌, ◌⊎◌, inl, inr, Bool, List, [], ◌∷◌, ◌++◌, length, take, drop, get_or, min, length-drop, take_all, arith, refl, ap, sym, ◌∙◌, subst, Some, map, sum}
use Rattle.std.proofs.lemmas.Bool.{cases_lt, lt-ltb, le-ltb}
use Rattle.std.proofs.lemmas.List.{drop-append-le, get_or_past, get_or_push, length_push, length-take, length-take-le, take-append-le, take_more, map_push, length-map}
use Rattle.std.proofs.lemmas.Option.{slice_get-get_or, slice_get_read}
use Rattle.std.proofs.Math.Nat.{mul-le-mul_left, mul-le-mul_right}
use Rattle.std.proofs.lemmas.List.FromFn.{length-map-range_with_len}
use Rattle.std.specs.Int.{div_ceil}
use Rattle.std.specs.Option.{ForSome, option_map}
use Rattle.std.proofs.lemmas.List.Concat.{length-flat_map}
use Rattle.std.proofs.lemmas.List.Sums.{sum-map}
use Rattle.nv_entry.specs.Clean.{pages_by}
use Rattle.nv_base.specs.Ids.{IsIdBefore}
use Rattle.nv_base.specs.declared.numbers.EntryId.{EntryId}
use Rattle.nv_alloc.specs.Block.{BlockValue}
use Rattle.nv_entry.specs.declared.item.Entry.{Entry}
use Rattle.nv_entry.specs.Log.{MayFollow}
use Rattle.nv_log.specs.Chain.{AppendsEntry, AreEnds, ChainState, IsChain, KeepsPages, appended, compacted, end_in, joined, last_entry, last_epoch, last_id, left_of, log, log_pages, open_page, open_of, page_entries, pages_of, room_of, start_in, start_of, with_page, with_entries_left, with_pages_left, end_of}
use Rattle.nv_log.proofs.Logs.{IsLog-push, IsLog-left_of}
use Rattle.nv_log.proofs.Parts.{AreEnds-full, AreEnds-joined, AreEnds-push, AreEnds-take, AreSized-parts, div_ceil-le, in_order, len_le, length-ends_from, length-parts, part_any, parts-joined, parts-push, start_past, joined-parts, length-part, pages_by-parts}
use Rattle.nv_log.proofs.Flags.{all_left, joined-left_of, length-left_of, length-left_of-le, spread, take-joined_left, take-left_of}

-- the next entry goes to the last page with entries while that has a free place, and else to the page after it
open_either : (page : ℕ) (ends : List ℕ) (len : ℕ)
    → ((len - start_in ends len (length ends - 1) < page) × (open_page page ends len ≡ length ends - 1)) ⊎
    ((page ≤ len - start_in ends len (length ends - 1)) × (open_page page ends len ≡ length ends))
open_either page ends len =
    let held = len - start_in ends len (length ends - 1) in
    elim (cases_lt held page) [ inl lt ↦ inl (lt, rw (lt-ltb held page lt) refl) | inr ge ↦ inr (ge, rw (le-ltb held page ge) refl) ]

-- the page that gets the next entry ends where all entries end, and has a free place if it is there
pub record IsOpen (page : ℕ) (ends : List ℕ) (len k : ℕ) : Type 0 where
  pub at_most : k ≤ length ends
  pub begins : start_in ends len k ≤ len
  pub stops : end_in ends len k ≡ len
  pub free : len - start_in ends len k < page

pub is_open : (page : ℕ) (ends : List ℕ) (len : ℕ) → 0 < page → AreEnds page 0 ends len → IsOpen page ends len (open_page page ends len)
is_open page ends len some are =
    elim (open_either page ends len) [
      | inl last ↦
          let begins = in_order page ends len (length ends - 1) are in
          rw last.1 (record { at_most = omega arith; begins = omega (arith, begins.0, begins.1); stops = stops ends are; free = last.0 })
      | inr next ↦
          let past = start_past page 0 ends len (length ends) are (omega arith) in
          rw next.1 (record {
            at_most = omega arith;
            begins = omega (
              arith,
              past,
            );
            stops = get_or_past ends (length ends) len (omega arith);
            free = omega (arith, past);
          })
    ]
  where
    stops : (ends : List ℕ) → AreEnds page 0 ends len → end_in ends len (length ends - 1) ≡ len
    stops [] are = refl
    stops (e ∷ ends) are =
        let last : length (e ∷ ends) - 1 ≡ length ends = omega arith in
        rw last (start_past page e ends len (length ends) are.2 (omega arith))

-- the page that gets the next entry, where there is room
is_within : (page held len at : ℕ) → 0 < page * (len - at) - held → at < len
is_within page held len at room =
    elim (cases_lt at len) [
      | inl lt ↦ lt
      | inr ge ↦ let none : len - at ≡ 0 = omega arith in let nothing : 0 < page * 0 - held = rw none
          at room in absurd (omega arith)
    ]

pub opens : (chain : ChainState) → IsChain chain → IsOpen chain.page chain.ends (length chain.entries) (open_of chain)
opens chain is = is_open chain.page chain.ends (length chain.entries) (omega (arith, is.least)) is.parted

pub open_within : (chain : ChainState) → 0 < room_of chain → open_of chain < length chain.blocks
open_within chain room =
    is_within chain.page (length chain.entries - start_of chain (open_of chain)) (length chain.blocks) (open_of chain) room

-- an entry that may follow the last id and epoch may follow the last entry
follows_last : (chain : ChainState) (e : Entry) → ForSome (last_id chain) (λ last. IsIdBefore last e.id)
    → ForSome (last_epoch chain) (λ last. last ≤ e.epoch) → 0 < length chain.entries
    → MayFollow (get_or chain.entries (length chain.entries - 1) e) e
follows_last chain e id epoch some =
    let last = slice_get-get_or chain.entries (length chain.entries - 1) e (omega arith) in
    record {
      id_rises = id _ (ap (option_map (λ (x : Entry). x.id)) last);
      epoch_stays = epoch _ (ap (option_map (λ (x : Entry). x.epoch)) last);
    }

-- a chain with one more entry is a chain
pub IsChain-appended : (chain : ChainState) (e : Entry) → IsChain chain → 0 < room_of chain
    → ForSome (last_id chain) (λ last. IsIdBefore last e.id) → ForSome (last_epoch chain) (λ last. last ≤ e.epoch)
    → IsChain (appended e chain)
IsChain-appended chain e is room id epoch =
    let opened = opens chain is in
    let len = length chain.entries in
    let front = take (open_of chain) chain.ends in
    let size = length_push chain.entries e in
    record {
      least = is.least;
      most = is.most;
      paged = omega (arith, length_push front (len + 1), length-take-le (open_of chain) chain.ends opened.at_most, open_within chain room);
      parted =
          rw size (AreEnds-push chain.page 0 front (start_of chain (open_of chain)) (len + 1) (AreEnds-take chain.page 0 chain.ends len
          (open_of chain) is.parted opened.at_most) (omega (arith, opened.begins)) (omega (arith, opened.free, opened.begins)));
      rising = IsLog-push chain.entries e is.rising (follows_last chain e id epoch);
      within = omega (arith, is.within, size);
    }

-- what the ids and epochs of a chain's end ask, by its last entry
pub by_last : (chain : ChainState) (last : Entry) (id : EntryId) (epoch : ℕ) → last_entry chain ≡ Some last → (IsIdBefore last.id id
    → last.epoch ≤ epoch
    → ForSome (last_id chain) (λ x. IsIdBefore x id) × ForSome (last_epoch chain) (λ x. x ≤ epoch)) × (ForSome (last_id chain)
    (λ x. IsIdBefore x id) × ForSome (last_epoch chain) (λ x. x ≤ epoch) → IsIdBefore last.id id × (last.epoch ≤ epoch))
by_last chain last id epoch is =
    let ids = ap (option_map (λ (x : Entry). x.id)) is in
    let epochs = ap (option_map (λ (x : Entry). x.epoch)) is in (
      λ before le. (
        λ x e. subst (λ y. IsIdBefore y id) (same last.id x (sym ids
            ∙ e)) before,
        λ x e. subst (λ y. y ≤ epoch) (same last.epoch x (sym epochs ∙ e)) le,
      ),
      λ both. (both.0 last.id ids, both.1 last.epoch epochs),
    )
  where
    same : {X : Type 0} (x y : X) → Some x ≡ Some y → x ≡ y
    same x y e = cc

-- where pages have room, their entries' places have it too
pub has_place : (chain : ChainState) (e : Entry) (pages places : ℕ) → IsChain (appended e chain) → length chain.blocks ≤ pages
    → pages * chain.page ≤ places → length chain.entries < places
has_place chain e pages places next few most =
    let ends = (appended e chain).ends in
    let all = len_le chain.page 0 ends (length (chain.entries ++ e ∷ [])) next.parted in
    let paged : length ends ≤ pages = omega (arith, next.paged, few) in
    omega (arith, all, length_push chain.entries e, mul-le-mul_right chain.page paged, most)

product-split : (page len at : ℕ) → at < len → page * (len - at) ≡ page * (len - (at + 1)) + page
product-split page len at lt =
    let step : len - at ≡ (len - (at + 1)) + 1 = omega arith in
    ap (λ n. page * n) step ∙ omega arith

-- a page's count is at most the places from it on
held_le : (page held len at : ℕ) → at < len → held ≤ page → held ≤ page * (len - at)
held_le page held len at lt le =
    let one : 1 ≤ len - at = omega arith in
    omega (arith, le, mul-le-mul_left page one)

-- the ends up to the open page, and one more behind them
start_pushed : (from : ℕ) (ends : List ℕ) (k x d e : ℕ) → k ≤ length ends
    → get_or (from ∷ (take k ends ++ x ∷ [])) k d ≡ get_or (from ∷ ends) k e
start_pushed from ends zero x d e le = refl
start_pushed from [] (suc k) x d e le = absurd (omega arith)
start_pushed from (y ∷ ends) (suc k) x d e le = start_pushed y ends k x d e (omega arith)

-- one more entry leaves room for one less
room-appended : (chain : ChainState) (e : Entry) → IsChain chain → 0 < room_of chain → room_of (appended e chain) + 1 ≡ room_of chain
room-appended chain e is room =
    let opened = opens chain is in
    let within = open_within chain room in
    let at = open_of chain in
    let page = chain.page in
    let len = length chain.entries in
    let front = take at chain.ends in
    let ends = front ++ (len + 1) ∷ [] in
    let size : length (chain.entries ++ e ∷ []) ≡ len + 1 = length_push chain.entries e in
    let pages : length ends ≡ at + 1 = omega (arith, length_push front (len + 1), length-take-le at chain.ends opened.at_most) in
    let last : length ends - 1 ≡ at = omega (arith, pages) in
    let begins : start_in ends (len + 1) at ≡ start_of chain at = start_pushed 0 chain.ends at (len + 1) (len + 1) len opened.at_most in
    let past : start_in ends (len + 1) (at + 1) ≡ len + 1 =
    let step : at + 1 ≡ suc at = omega arith in rw step (get_or_push front (len + 1) (len + 1) at
    (length-take-le at chain.ends opened.at_most)) in
    let most = held_le page (len + 1 - start_of chain at) (length chain.blocks) at within (omega (arith, opened.free, opened.begins)) in
    let split = product-split page (length chain.blocks) at within in
    elim (open_either page ends (len + 1)) [
      | inl more ↦
          let same : open_page page ends (len + 1) ≡ at = more.1 ∙ last in
          rw (size, same, begins) (omega (arith, most, opened.begins, room))
      | inr full ↦
          let next : open_page page ends (len + 1) ≡ at + 1 = full.1 ∙ pages in
          let whole : page ≤ len + 1 - start_of chain at = rw (last, begins) at full.0 in
          rw (size, next, past) (omega (arith, whole, opened.free, opened.begins, split))
    ]

-- what an append does to pages, room and log
pub appends_entry : (chain : ChainState) (e : Entry) → IsChain chain → 0 < room_of chain → AppendsEntry e chain (appended e chain)
appends_entry chain e is room =
    let opened = opens chain is in
    let at = open_of chain in
    let es = chain.entries in
    let len = length es in
    let start = start_of chain at in
    let begun : start - 0 ≡ start = omega arith in
    let held : page_entries chain at ≡ drop start es =
    part_any chain.page chain.ends at es is.parted ∙ ap (λ n. take (n - start) (drop start es)) opened.stops
    ∙ take_all (len - start) (drop start es) (omega (arith, length-drop start es)) in
    let last : take (len + 1 - start) (drop (start - 0) (es ++ e ∷ [])) ≡ page_entries chain at ++ e ∷ [] =
    ap (λ n. take (len + 1 - start) (drop n (es ++ e ∷ []))) begun
    ∙ ap (take (len + 1 - start)) (drop-append-le start es (e ∷ []) opened.begins)
    ∙ take_all (len + 1 - start) (drop start es ++ e ∷ []) (omega (
      arith,
      length_push (drop start es) e,
      length-drop start es,
      opened.begins,
    ))
    ∙ ap (λ xs. xs ++ e ∷ []) (sym held) in
    record {
      room_falls = room-appended chain e is room;
      last_is =
          let place : length (es ++ e ∷ []) - 1 ≡ len = omega (arith, length_push es e) in
          rw place (slice_get_read (es ++ e ∷ []) (length (es ++ e ∷ [])) len e refl (omega (
            arith,
            length_push es e,
          )) (sym (get_or_push es e e len refl)));
      pages_are =
          parts-push chain.page 0 chain.ends len at (len + 1) es (e ∷ []) is.parted (omega arith) opened.at_most
          ∙ ap (λ xs. take at (pages_of chain) ++ xs ∷ []) last;
      log_stays = take-append-le chain.tail es (e ∷ []) is.within;
    }

-- what the page that gets the next entry holds is within the room of the pages from there on
pub record IsHeld (chain : ChainState) : Type 0 where
  pub there : open_of chain ≤ length chain.blocks
  pub begins : start_of chain (open_of chain) ≤ length chain.entries
  pub fits : length chain.entries - start_of chain (open_of chain) ≤ chain.page * (length chain.blocks - open_of chain)

pub is_held : (chain : ChainState) → IsChain chain → IsHeld chain
is_held chain is =
    let opened = opens chain is in
    let at = open_of chain in
    record {
      there = omega (arith, opened.at_most, is.paged);
      begins = opened.begins;
      fits = elim (cases_lt at (length chain.blocks)) [
        | inl lt ↦ held_le chain.page (length chain.entries - start_of chain at) (length chain.blocks) at lt (omega (arith, opened.free))
        | inr ge ↦ omega (arith, start_past chain.page 0 chain.ends (length chain.entries) at is.parted (omega (arith, is.paged, ge)))
      ];
    }

-- one more page gives that much more room
pub room-page : (chain : ChainState) (block : BlockValue) → IsChain chain → room_of (with_page block chain) ≡ room_of chain + chain.page
room-page chain block is =
    let held = is_held chain is in
    let step : length chain.blocks + 1 - open_of chain ≡ length chain.blocks - open_of chain + 1 = omega (arith, held.there) in
    rw (length_push chain.blocks block, step) (omega (arith, held.fits))

-- a chain without the entries of some pages is a chain
pub IsChain-with_entries_left : (stays : List Bool) (chain : ChainState) → IsChain chain → IsChain (with_entries_left stays chain)
IsChain-with_entries_left stays chain is =
    let len = length chain.entries in
    let all = joined-left_of chain.page 0 stays chain.ends len chain.entries is.parted (omega arith) in
    let law = take-joined_left chain.page stays chain.ends chain.tail chain.entries is.parted in
    record {
      least = is.least;
      most = is.most;
      paged =
          omega (
            arith,
            is.paged,
            length-ends_from 0 (left_of stays (pages_of chain)),
            length-left_of stays (pages_of chain),
            length-parts 0 chain.ends chain.entries,
          );
      parted = AreEnds-joined chain.page 0 (left_of stays (pages_of chain)) (length (joined (left_of stays (pages_of chain))))
          (all_left (λ part. (0 < length part) × (length part ≤ chain.page)) stays (pages_of chain)
          (AreSized-parts chain.page 0 chain.ends len chain.entries is.parted (omega arith))) (omega arith);
      rising = rw all (IsLog-left_of (spread 0 stays chain.ends) chain.entries is.rising);
      within =
          omega (
            arith,
            ap length law,
            length-take (length (joined (left_of stays (log_pages chain)))) (joined (left_of stays (pages_of chain))),
          );
    }

-- nor is it another without these pages
IsChain-with_pages_left : (stays : List Bool) (chain : ChainState) → IsChain chain → IsChain (with_pages_left stays chain)
IsChain-with_pages_left stays chain is =
    let rest = IsChain-with_entries_left stays chain is in
    record {
      least = is.least;
      most = is.most;
      paged =
          omega (
            arith,
            length-ends_from 0 (left_of stays (pages_of chain)),
            length-left_of-le stays (pages_of chain) chain.blocks (omega (arith, is.paged, length-parts 0 chain.ends chain.entries)),
          );
      parted = rest.parted;
      rising = rest.rising;
      within = rest.within;
    }

-- another chain, of some pages of the old one: each keeps its entries, and the log keeps what such a page had of it
pub record HasPagesLeft (stays : List Bool) (old new : ChainState) : Type 0 where
  pub state : new ≡ with_pages_left stays old
  pub chain : IsChain new
  pub keeps : KeepsPages stays old new

-- once the entries of the other pages are out, their blocks go too
pub has_pages_left : (stays : List Bool) (old taken : ChainState) (blocks : List BlockValue) → IsChain old
    → taken ≡ with_entries_left stays old → blocks ≡ left_of stays taken.blocks
    → HasPagesLeft stays old (record taken { blocks = blocks })
has_pages_left stays old taken blocks is out left =
    let whole : record taken { blocks = blocks } ≡ with_pages_left stays old = rw (left, out) refl in
    rw whole (record {
      state = refl;
      chain = IsChain-with_pages_left stays old is;
      keeps = record {
        pages_are = parts-joined 0 (left_of stays (pages_of old));
        log_is = take-joined_left old.page stays old.ends old.tail old.entries is.parted;
      };
    })

-- a chain with what is left of its entries on fresh pages is a chain
pub IsChain-compacted : (stays : List Bool) (pages : List BlockValue) (chain : ChainState) → IsChain chain
    → length pages ≡ div_ceil (length (left_of stays chain.entries)) chain.page → IsChain (compacted stays pages chain)
IsChain-compacted stays pages chain is count =
    let n = length (left_of stays chain.entries) in
    let some : 0 < chain.page = omega (arith, is.least) in
    let law = take-left_of stays chain.tail chain.entries in
    record {
      least = is.least;
      most = is.most;
      paged = omega (arith, count, length-map-range_with_len (λ k. min ((k + 1) * chain.page) n) 0 (div_ceil n chain.page));
      parted = AreEnds-full chain.page n some;
      rising = IsLog-left_of stays chain.entries is.rising;
      within = omega (arith, ap length law, length-take (length (left_of stays (log chain))) (left_of stays chain.entries));
    }

-- what is left needs no more pages than there were
pub compacted_few : (stays : List Bool) (chain : ChainState) → IsChain chain
    → div_ceil (length (left_of stays chain.entries)) chain.page ≤ length chain.blocks
compacted_few stays chain is =
    let all = len_le chain.page 0 chain.ends (length chain.entries) is.parted in
    div_ceil-le (length (left_of stays chain.entries)) chain.page (length chain.blocks) (omega (arith, is.least)) (omega (
      arith,
      all,
      length-left_of stays chain.entries,
      mul-le-mul_right chain.page is.paged,
    ))

-- the pages of a log joined are the log
pub joined-log_pages : (chain : ChainState) → IsChain chain → joined (log_pages chain) ≡ log chain
joined-log_pages chain is =
    joined-parts chain.page 0 chain.ends (length chain.entries) (log chain) is.parted (omega (arith, length-take chain.tail chain.entries))

-- how many entries of the log each page has: one more page, and all
pub counts_more : (chain : ChainState) (k : ℕ) → IsChain chain → k < length chain.ends
    → map length (take (k + 1) (log_pages chain))
    ≡ map length (take k (log_pages chain)) ++ (min (end_of chain k) chain.tail - min (start_of chain k) chain.tail) ∷ []
counts_more chain k is lt =
    let pages = log_pages chain in
    ap (map length) (take_more pages k [] (omega (arith, lt, length-parts 0 chain.ends (log chain))))
    ∙ map_push length (take k pages) (get_or pages k [])
    ∙ ap (λ n. map length (take k pages) ++ n ∷ []) (length-part chain.page chain.ends chain.tail k chain.entries is.parted lt)

pub record AreCounts (chain : ChainState) (counts : List ℕ) : Type 0 where
  pub value : counts ≡ map length (log_pages chain)
  pub total : sum counts ≡ length (log chain)
  pub each : length counts ≡ length chain.ends
  pub pages : pages_by counts (log chain) ≡ log_pages chain

pub are_counts : (chain : ChainState) (counts : List ℕ) (k : ℕ) → IsChain chain → length chain.ends ≤ k
    → counts ≡ map length (take k (log_pages chain)) → AreCounts chain counts
are_counts chain counts k is le e =
    let size = length-parts 0 chain.ends (log chain) in
    let value : counts ≡ map length (log_pages chain) = e ∙ ap (map length) (take_all k (log_pages chain) (omega (arith, le, size))) in
    record {
      value = value;
      total =
          ap sum value ∙ sum-map length (log_pages chain) ∙ sym (length-flat_map (λ page. page) (log_pages chain))
          ∙ ap length (joined-log_pages chain is);
      each = ap length value ∙ length-map (log_pages chain) length ∙ size;
      pages = ap (λ ns. pages_by ns (log chain)) value ∙ pages_by-parts 0 chain.ends (log chain);
    }
