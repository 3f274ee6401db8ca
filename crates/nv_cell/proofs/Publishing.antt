-- One more entry takes effect.
use Rattle.std.proofs.Common.{◌≡◌, ℕ, zero, suc, ◌+◌, ◌-◌, ◌<◌, ◌≤◌, ◌&&◌, ◌||◌, Bool, true, false, not, cond, nat_lt, List, [], ◌∷◌, ◌++◌, length, take, drop, Option, Some, None, arith, refl, ap, sym, ◌∙◌, slice_index_or}
use Rattle.std.specs.Option.{option_map, option_or}
use Rattle.std.specs.Prelude.{option_and_then}
use Rattle.std.proofs.lemmas.Bool.{ltb-true, ltb-false, lt-ltb}
use Rattle.nv_entry.specs.declared.item.Entry.{Entry}
use Rattle.nv_entry.specs.declared.key.Setting.{Setting}
use Rattle.nv_entry.specs.declared.key.Setting.TheVariants.{Untouched, Absent, Present}
use Rattle.nv_entry.specs.Keys.{Key, sets, touches, covers}
use Rattle.nv_entry.specs.Index.{last_cover}
use Rattle.nv_entry.specs.Log.{IsLog}
use Rattle.nv_entry.specs.declared.part_ref.PartRef.{PartRef}
use Rattle.nv_entry.specs.Refs.{place_in, ref_after, left_by}
use Rattle.nv_cell.specs.Index.{IndexValue, ref_of}
use Rattle.nv_entry.specs.Covered.{part_count, part_total, part_key, key_at, any_cover, is_covered}
use Rattle.nv_entry.specs.Refs.{scan_ref}
use Rattle.nv_cell.specs.Numbers.{number, number_at, is_number, is_named, AreNamed, IsPart}
use Rattle.nv_cell.proofs.Killing.{number_is}
use Rattle.nv_cell.proofs.Numbers.{scan_n, scan_names, scan_key, covered_push, total_append, key_front, Linked, linked}

option_or-assoc : {T : Type 0} (a b c : Option T) → option_or a (option_or b c) ≡ option_or (option_or a b) c
option_or-assoc None b c = refl
option_or-assoc (Some x) b c = refl

option_or-none : {T : Type 0} (a : Option T) → option_or a None ≡ a
option_or-none None = refl
option_or-none (Some x) = refl

last_append : (block : ℕ) (xs ys : List Entry) (key : Key)
    → last_cover block (xs ++ ys) key ≡ option_or (last_cover block ys key) (last_cover block xs key)
last_append block [] ys key = sym (option_or-none (last_cover block ys key))
last_append block (x ∷ xs) ys key =
    ap (λ o. option_or o (cond (covers block x.item key) (Some x) None)) (last_append block xs ys key)
    ∙ sym (option_or-assoc (last_cover block ys key) (last_cover block xs key) (cond (covers block x.item key) (Some x) None))

-- the scan after one more entry
pub scan_push : (block : ℕ) (log : List Entry) (e : Entry) (key : Key)
    → scan_ref block (log ++ e ∷ []) key ≡ ref_after block e key (scan_ref block log key)
scan_push block log e key =
    ap (option_and_then (λ x. ref_after block x key None)) (last_append block log (e ∷ []) key) ∙ go (sets block e.item key) refl where
      go : (s : Setting) → sets block e.item key ≡ s
          → option_and_then (λ x. ref_after block x key None)
          (option_or (option_or None (cond (covers block e.item key) (Some e) None)) (last_cover block log key))
          ≡ ref_after block e key (scan_ref block log key)
      go Untouched q =
          let a : covers block e.item key ≡ false = ap touches q in
          let b : ref_after block e key (scan_ref block log key) ≡ scan_ref block log key =
          ap (λ (s : Setting). left_by s (record { entry = e.id; place = place_in e.item key }) (scan_ref block log key)) q in
          rw a (sym b)
      go Absent q =
          let a : covers block e.item key ≡ true = ap touches q in
          let b : ref_after block e key (scan_ref block log key) ≡ None =
          ap (λ (s : Setting). left_by s (record { entry = e.id; place = place_in e.item key }) (scan_ref block log key)) q in
          let d : ref_after block e key None ≡ None =
          ap (λ (s : Setting). left_by s (record { entry = e.id; place = place_in e.item key }) None) q in
          rw a (d ∙ sym b)
      go (Present v) q =
          let a : covers block e.item key ≡ true = ap touches q in
          let b : ref_after block e key (scan_ref block log key) ≡ Some (record { entry = e.id; place = place_in e.item key }) =
          ap (λ (s : Setting). left_by s (record { entry = e.id; place = place_in e.item key }) (scan_ref block log key)) q in
          let d : ref_after block e key None ≡ Some (record { entry = e.id; place = place_in e.item key }) =
          ap (λ (s : Setting). left_by s (record { entry = e.id; place = place_in e.item key }) None) q in
          rw a (d ∙ sym b)

take_drop : (es : List Entry) (t : ℕ) → take t es ++ drop t es ≡ es
take_drop [] zero = refl
take_drop [] (suc t) = refl
take_drop (x ∷ xs) zero = refl
take_drop (x ∷ xs) (suc t) = ap (λ ys. x ∷ ys) (take_drop xs t)

from_zero : (o : Option ℕ) → option_map (λ m. 0 + m) o ≡ o
from_zero None = refl
from_zero (Some m) = ap Some (omega arith)

-- an index that is the scan of the first `t` entries
pub record IsScan (block : ℕ) (es : List Entry) (t : ℕ) (index : IndexValue) : Type 0 where
  pub log : IsLog es
  pub scan : (key : Key) → ref_of index key ≡ scan_ref block (take t es) key

link : (block : ℕ) (es : List Entry) (t : ℕ) (key : Key) → IsLog es → Linked block es 0 (take t es) key
link block es t key is =
    let i : IsLog (take t es ++ drop t es) = rw (take_drop es t) is in
    rw (take_drop es t) at (linked block [] (take t es) (drop t es) key i)

-- the scan by ids is the scan by numbers
pub scanned : (block : ℕ) (es : List Entry) (t : ℕ) (key : Key) → IsLog es
    → option_map (number es) (scan_ref block (take t es) key) ≡ scan_n block (take t es) key
scanned block es t key is = (link block es t key is).numbers ∙ from_zero (scan_n block (take t es) key)

pub by_number : (block : ℕ) (es : List Entry) (t : ℕ) (index : IndexValue) → IsScan block es t index → (key : Key)
    → number_at es index key ≡ scan_n block (take t es) key
by_number block es t index h key =
    ap (option_map (number es)) (h.scan key) ∙ scanned block es t key h.log

pub total_take : (es : List Entry) (t : ℕ) → part_total (take t es) ≤ part_total es
total_take es t =
    let a : part_total (take t es ++ drop t es) ≡ part_total es = ap part_total (take_drop es t) in
    omega (arith, a, total_append (take t es) (drop t es))

pub front_key : (es : List Entry) (t n : ℕ) → n < part_total (take t es) → key_at es n ≡ key_at (take t es) n
front_key es t n lt = ap (λ (xs : List Entry). key_at xs n) (sym (take_drop es t)) ∙ key_front (take t es) (drop t es) n lt

pub are_named : (block : ℕ) (es : List Entry) (t : ℕ) (index : IndexValue) → IsScan block es t index → AreNamed es index
are_named block es t index h = record {
  parts = λ key r q. part key r q;
  keys = λ key m q.
      let s = scan_key block (take t es) key m (sym (by_number block es t index h key) ∙ q) in
      front_key es t m s.0 ∙ s.1;
} where
  part : (key : Key) (r : PartRef) → ref_of index key ≡ Some r → IsPart es r
  part key r q =
      let n : scan_n block (take t es) key ≡ Some (number es r) = sym (by_number block es t index h key) ∙ ap (option_map (number es)) q in
      let s = scan_key block (take t es) key (number es r) n in
      record {
        entry = (link block es t key h.log).known r (sym (h.scan key) ∙ q);
        within = omega (arith, s.0, total_take es t);
      }

pub named_is : (block : ℕ) (es : List Entry) (t : ℕ) (index : IndexValue) → IsScan block es t index → (n : ℕ)
    → is_named es index n ≡ (nat_lt n (part_total (take t es)) && not (is_covered block (take t es) n))
named_is block es t index h n =
    ap (λ (o : Option ℕ). is_number o n) (by_number block es t index h (key_at es n)) ∙ go (nat_lt n (part_total (take t es))) refl where
      none : part_total (take t es) ≤ n → (b : Bool) → is_number (scan_n block (take t es) (key_at es n)) n ≡ b → b ≡ false
      none le true q =
          let s = scan_key block (take t es) (key_at es n) n (number_is (scan_n block (take t es) (key_at es n)) n q) in
          absurd (omega (arith, s.0))
      none le false q = refl

      go : (b : Bool) → nat_lt n (part_total (take t es)) ≡ b
          → is_number (scan_n block (take t es) (key_at es n)) n
          ≡ (nat_lt n (part_total (take t es)) && not (is_covered block (take t es) n))
      go true q =
          ap (λ (k : Key). is_number (scan_n block (take t es) k) n) (front_key es t n (ltb-true n (part_total (take t es)) q))
          ∙ scan_names block (take t es) n
      go false q = rw q (none (ltb-false n (part_total (take t es)) q) (is_number (scan_n block (take t es) (key_at es n)) n) refl)

-- more entries cover no less
cover_take : (block : ℕ) (es : List Entry) (a b : ℕ) (key : Key) → a ≤ b → any_cover block (take a es) key ≡ true
    → any_cover block (take b es) key ≡ true
cover_take block [] zero b key le h = cc
cover_take block [] (suc a) b key le h = cc
cover_take block (x ∷ xs) zero b key le h = cc
cover_take block (x ∷ xs) (suc a) zero key le h = absurd (omega arith)
cover_take block (x ∷ xs) (suc a) (suc b) key le h =
    go (covers block x.item key) (λ k. cover_take block xs a b key (omega (arith, le)) k) h where
      go : (c : Bool) → (any_cover block (take a xs) key ≡ true → any_cover block (take b xs) key ≡ true)
          → (c || any_cover block (take a xs) key) ≡ true → (c || any_cover block (take b xs) key) ≡ true
      go true rec k = refl
      go false rec k = rec k

pub covered_take : (block : ℕ) (es : List Entry) (a b n : ℕ) → a ≤ b → is_covered block (take a es) n ≡ true
    → is_covered block (take b es) n ≡ true
covered_take block [] zero b n le h = cc
covered_take block [] (suc a) b n le h = cc
covered_take block (x ∷ xs) zero b n le h = cc
covered_take block (x ∷ xs) (suc a) zero n le h = absurd (omega arith)
covered_take block (x ∷ xs) (suc a) (suc b) n le h =
    go (nat_lt n (part_count x)) (λ k. covered_take block xs a b (n - part_count x) (omega (arith, le)) k) h where
      go : (c : Bool) → (is_covered block (take a xs) (n - part_count x) ≡ true → is_covered block (take b xs) (n - part_count x) ≡ true)
          → cond c (any_cover block (take a xs) (part_key x n)) (is_covered block (take a xs) (n - part_count x)) ≡ true
          → cond c (any_cover block (take b xs) (part_key x n)) (is_covered block (take b xs) (n - part_count x)) ≡ true
      go true rec k = cover_take block xs a b (part_key x n) (omega (arith, le)) k
      go false rec k = rec k

pub take_whole : (es : List Entry) → take (length es) es ≡ es
take_whole [] = refl
take_whole (x ∷ xs) = ap (λ ys. x ∷ ys) (take_whole xs)

pub take_next : (es : List Entry) (t : ℕ) (e : Entry) → t < length es → e ≡ slice_index_or es t e → take (t + 1) es ≡ take t es ++ e ∷ []
take_next [] t e lt q = absurd (omega arith)
take_next (x ∷ xs) zero e lt q = rw q refl
take_next (x ∷ xs) (suc t) e lt q =
    let s : suc t + 1 ≡ suc (t + 1) = omega arith in
    rw s (ap (λ ys. x ∷ ys) (take_next xs t e (omega (arith, lt)) q))

pub drop_next : (es : List Entry) (t : ℕ) (e : Entry) → t < length es → e ≡ slice_index_or es t e → drop t es ≡ e ∷ drop (t + 1) es
drop_next [] t e lt q = absurd (omega arith)
drop_next (x ∷ xs) zero e lt q = rw q refl
drop_next (x ∷ xs) (suc t) e lt q =
    let s : suc t + 1 ≡ suc (t + 1) = omega arith in
    rw s (drop_next xs t e (omega (arith, lt)) q)

step_bools : (a b c d d2 f : Bool) → (b ≡ true → a ≡ true) → (b ≡ true → d2 ≡ d) → (f ≡ true → c ≡ true)
    → cond ((a && c) && not f) 1 0 + cond ((b && not c) && d) 1 0 ≡ cond ((a && (c || (b && d2))) && not f) 1 0
step_bools a true true d d2 f ba dd fc = rw (ba refl) (go f) where
  go : (f : Bool) → cond (not f) 1 0 + 0 ≡ cond (not f) 1 0
  go true = refl
  go false = refl
step_bools a true false d d2 true ba dd fc = let z : false ≡ true = fc refl in cc
step_bools a true false d d2 false ba dd fc = rw (ba refl, dd refl) (go d) where
  go : (d : Bool) → 0 + cond d 1 0 ≡ cond (d && true) 1 0
  go true = refl
  go false = refl
step_bools a false true d d2 f ba dd fc = go a f where
  go : (a f : Bool) → cond ((a && true) && not f) 1 0 + 0 ≡ cond ((a && true) && not f) 1 0
  go true true = refl
  go true false = refl
  go false f = refl
step_bools a false false d d2 f ba dd fc = go a f where
  go : (a f : Bool) → cond ((a && false) && not f) 1 0 + 0 ≡ cond ((a && false) && not f) 1 0
  go true f = refl
  go false f = refl

-- what one entry more kills
pub kill_step : (block : ℕ) (es : List Entry) (tail t n : ℕ) (e : Entry) (index : IndexValue) → IsScan block es t index → tail ≤ t
    → t < length es → e ≡ slice_index_or es t e
    → cond ((nat_lt n (part_total es) && is_covered block (take t es) n) && not (is_covered block (take tail es) n)) 1 0 + cond
    (is_named es index n && covers block e.item (key_at es n)) 1 0
    ≡ cond ((nat_lt n (part_total es) && is_covered block (take (t + 1) es) n) && not (is_covered block (take tail es) n)) 1 0
kill_step block es tail t n e index h le lt q =
    let s =
    step_bools (nat_lt n (part_total es)) (nat_lt n (part_total (take t es))) (is_covered block (take t es) n)
    (covers block e.item (key_at es n)) (covers block e.item (key_at (take t es) n)) (is_covered block (take tail es) n)
    (λ b. lt-ltb n (part_total es) (omega (arith, ltb-true n (part_total (take t es)) b, total_take es t)))
    (λ b. ap (covers block e.item) (sym (front_key es t n (ltb-true n (part_total (take t es)) b))))
    (λ f. covered_take block es tail t n le f) in
    rw (named_is block es t index h n, take_next es t e lt q, covered_push block (take t es) e n) s
