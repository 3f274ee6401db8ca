-- Lists of jobs, of the calls of threads, and of texts.
use Rattle.std.proofs.Common.{◌≡◌, ◌≢◌, ◌⊎◌, inl, inr, ◌==◌, ◌∙◌, zero, suc, ℕ, ◌+◌, ◌<◌, ◌%◌, Bool, true, false, cond, List, [], ◌∷◌, ◌++◌, length, get_or, set, map, drop, take, Result, Ok, Err, refl, sym, ap, subst, append-nil, append_assoc, arith}
use Rattle.std.proofs.lemmas.Grind.{flat_map-append}
use Rattle.std.proofs.Math.Nat.{mod-lt}
use Rattle.std.proofs.Math.Seq.{take-append_seam}
use Rattle.std.proofs.lemmas.List.{ext_get_or, get_or-map, get_or-set_other, get_or-set_same, length-map, length-set, map-append, map-set, take-append-drop}
use Rattle.std.proofs.lemmas.List.Elements.{filter-append}
use Rattle.std.proofs.lemmas.List.FromFn.{get_or-map-range_with_len, length-enumerate_from, length-map-range_with_len}
use Rattle.std.proofs.lemmas.Bool.{eq-eqb, ne_eqb}
use Rattle.std.proofs.lemmas.Bool.Decides.{eqb_tells}
use Rattle.std.proofs.lemmas.Slice.Zip.{all_zipped_more}
use Rattle.std.specs.Fork.{ChangesEach, GivesJobs}
use Rattle.std.specs.List.{AllZip, enumerate_from, flat_map, zip}
use Rattle.std.specs.Prelude.{IfOk, OnErr}
use denote.Param.Members.{Shared}
use denote.Ref.{MutBor}
use Rattle.nv_script.specs.Grammar.{is_skipped}
use Rattle.nv_script.specs.Words.{words_of}
use Rattle.nv_script.specs.declared.command.Command.TheVariants as command
use Rattle.nv_work.specs.declared.forked.ForkedCall.{ForkedCall}
use Rattle.nv_work.specs.Threads.{IsAnswered, IsThreadText, Told, answer_line, call_read, calls_in, calls_on, forked_of, is_own, share_of, shares_of, with_call, with_calls}

-- ---- lists side by side

-- of pairs the first parts, and the second ones
pub zip_firsts : {A B : Type 0} (xs : List A) (ys : List B) → length xs ≡ length ys → map (λ p. p.0) (zip xs ys) ≡ xs
zip_firsts [] ys same = refl
zip_firsts (x ∷ xs) [] same = absurd (omega (arith, same))
zip_firsts (x ∷ xs) (y ∷ ys) same = ap (λ l. x ∷ l) (zip_firsts xs ys (omega (arith, same)))

pub zip_seconds : {A B : Type 0} (xs : List A) (ys : List B) → length xs ≡ length ys → map (λ p. p.1) (zip xs ys) ≡ ys
zip_seconds [] [] same = refl
zip_seconds [] (y ∷ ys) same = absurd (omega (arith, same))
zip_seconds (x ∷ xs) [] same = absurd (omega (arith, same))
zip_seconds (x ∷ xs) (y ∷ ys) same = ap (λ l. y ∷ l) (zip_seconds xs ys (omega (arith, same)))

pub enumerated : {A : Type 0} (n : ℕ) (xs : List A) → map (λ p. p.1) (enumerate_from n xs) ≡ xs
enumerated n [] = refl
enumerated n (x ∷ xs) = ap (λ l. x ∷ l) (enumerated (n + 1) xs)

pub map_enumerated : {A B : Type 0} (f : A → B) (n : ℕ) (xs : List A)
    → map (λ p. (p.0, f p.1)) (enumerate_from n xs) ≡ enumerate_from n (map f xs)
map_enumerated f n [] = refl
map_enumerated f n (x ∷ xs) = ap (λ l. (n, f x) ∷ l) (map_enumerated f (n + 1) xs)

-- lists that are made of others are made of them once more
pub map_after : {A B C : Type 0} (f : B → C) (g : A → B) (xs : List A) → map f (map g xs) ≡ map (λ x. f (g x)) xs
map_after f g [] = refl
map_after f g (x ∷ xs) = ap (λ l. f (g x) ∷ l) (map_after f g xs)

pub map_pushed : {A B C : Type 0} (f : A → C) (g : B → C) (xs : List A) (ys : List B) (x : A) (y : B) → map f xs ≡ map g ys → f x ≡ g y
    → map f (xs ++ x ∷ []) ≡ map g (ys ++ y ∷ [])
map_pushed f g xs ys x y same last =
    map-append f xs (x ∷ []) ∙ ap (λ l. l ++ f x ∷ []) same ∙ ap (λ z. map g ys ++ z ∷ []) last ∙ sym (map-append g ys (y ∷ []))

-- pairs of a place and a value
pub of_places : {V : Type 0} (pairs : List (ℕ × V)) (vs : List V) → map (λ p. (p.0, p.1)) pairs ≡ enumerate_from 0 vs
    → map (λ p. p.1) pairs ≡ vs
of_places pairs vs all =
    sym (map_after (λ (p : ℕ × _). p.1) (λ (p : ℕ × _). (p.0, p.1)) pairs) ∙ ap (map (λ (p : ℕ × _). p.1)) all ∙ enumerated 0 vs

-- sessions beside such pairs
module _ {S V : Type 0} (pairs : List (S × (ℕ × V))) (ss : List S) (vs : List V)
    (all : map (λ p. (p.0, (p.1.0, p.1.1))) pairs ≡ zip ss (enumerate_from 0 vs)) (same : length ss ≡ length vs) where
  long : length ss ≡ length (enumerate_from 0 vs)
  long = same ∙ sym (length-enumerate_from 0 vs)

  pub of_seconds : {X : Type 0} (f : V → X) → map (λ p. (p.1.0, f p.1.1)) pairs ≡ enumerate_from 0 (map f vs)
  of_seconds {X = X} f =
      let h : ℕ × V → ℕ × X = λ q. (q.0, f q.1) in
      let again : S × (ℕ × V) → S × (ℕ × V) = λ p. (p.0, (p.1.0, p.1.1)) in
      let second : S × (ℕ × V) → ℕ × V = λ p. p.1 in
      sym (map_after (λ (p : S × (ℕ × V)). h p.1) again pairs) ∙ ap (map (λ (p : S × (ℕ × V)). h p.1)) all
      ∙ sym (map_after h second (zip ss (enumerate_from 0 vs))) ∙ ap (map h) (zip_seconds ss (enumerate_from 0 vs) long)
      ∙ map_enumerated f 0 vs

  pub of_firsts : {X : Type 0} (f : S → X) → map (λ p. f p.0) pairs ≡ map f ss
  of_firsts f =
      let again : S × (ℕ × V) → S × (ℕ × V) = λ p. (p.0, (p.1.0, p.1.1)) in
      let first : S × (ℕ × V) → S = λ p. p.0 in
      sym (map_after (λ (p : S × (ℕ × V)). f p.0) again pairs) ∙ ap (map (λ (p : S × (ℕ × V)). f p.0)) all
      ∙ sym (map_after f first (zip ss (enumerate_from 0 vs))) ∙ ap (map f) (zip_firsts ss (enumerate_from 0 vs) long)

-- a list that was cut in two
pub cut_again : {S X : Type 0} (f : S → X) (ss front back : List S) (n : ℕ) → front ≡ take n ss → back ≡ drop n ss
    → map f front ++ map f back ≡ map f ss
cut_again f ss front back n one other =
    sym (map-append f front back) ∙ ap (λ l. map f (l ++ back)) one ∙ ap (λ l. map f (take n ss ++ l)) other
    ∙ ap (map f) (take-append-drop n ss)

-- what holds place by place
pub all_zip : {A B : Type 0} (R : A → B → Type 0) (xs : List A) (ys : List B) → length ys ≡ length xs
    → ((k : ℕ) (a : A) (b : B) → k < length xs → R (get_or xs k a) (get_or ys k b)) → AllZip R xs ys
all_zip R [] [] same each = tt
all_zip R [] (y ∷ ys) same each = absurd (omega (arith, same))
all_zip R (x ∷ xs) [] same each = absurd (omega (arith, same))
all_zip R (x ∷ xs) (y ∷ ys) same each = (
  each zero x y (omega arith),
  all_zip R xs ys (omega (arith, same)) (λ k a b lt. each (suc k) a b (omega (arith, lt))),
)

pub all_zip-maps : {A B X Y : Type 0} (R : X → Y → Type 0) (f : A → X) (g : B → Y) (xs : List A) (ys : List B)
    → AllZip (λ a b. R (f a) (g b)) xs ys → AllZip R (map f xs) (map g ys)
all_zip-maps R f g [] [] all = tt
all_zip-maps R f g [] (y ∷ ys) all = absurd all
all_zip-maps R f g (x ∷ xs) [] all = absurd all
all_zip-maps R f g (x ∷ xs) (y ∷ ys) all = (all.0, all_zip-maps R f g xs ys all.1)

pub all_zip-same : {A B X : Type 0} (f : A → X) (g : B → X) (xs : List A) (ys : List B) → AllZip (λ a b. g b ≡ f a) xs ys
    → map g ys ≡ map f xs
all_zip-same f g [] [] all = refl
all_zip-same f g [] (y ∷ ys) all = absurd all
all_zip-same f g (x ∷ xs) [] all = absurd all
all_zip-same f g (x ∷ xs) (y ∷ ys) all = ap (λ z. z ∷ map g ys) all.0 ∙ ap (λ l. f x ∷ l) (all_zip-same f g xs ys all.1)

-- ---- what came of jobs

-- where two things hold of a result, so does a third
pub both_ok : {A E : Type 0} (r : Result A E) (P Q T : A → Type 0) → IfOk r P → IfOk r Q → ((v : A) → P v → Q v → T v) → IfOk r T
both_ok (Ok v) P Q T p q f = f v p q
both_ok (Err e) P Q T p q f = tt

pub on_err : {A E P : Type 0} (r : Result A E) → P → OnErr r P
on_err (Ok v) p = tt
on_err (Err e) p = p

-- what a call of each job gives holds of the jobs and the results, place by place
pub of_jobs : {F J R : Type 0} (g : Shared F (J × Unit {0}) R) (f : F) (Gives : J → R → Type 0) (js : List J) (rs : List R)
    → ((j : J) (r : R) → g.post f (j, tt) r → Gives j r) → length rs ≡ length js → GivesJobs g f js rs → AllZip Gives js rs
of_jobs g f Gives js rs met same each = all_zip Gives js rs same there where
  there : (k : ℕ) (a : _) (b : _) → k < length js → Gives (get_or js k a) (get_or rs k b)
  there k a b lt =
      let it = (each k b lt).1 in
      subst (λ j. Gives j (get_or rs k b)) (sym (it.job_is a)) (met it.job _ it.call.met)

-- a slice of which each element is left as it was
pub kept_each : {F T V : Type 0} (g : Shared F (ℕ × (MutBor T × Unit {0})) ((Unit {0}) × (MutBor T × Unit {0}))) (f : F) (by : T → V)
    (xs ys : List T) → length ys ≡ length xs
    → ((i : ℕ) (p q : MutBor T) → g.post f (i, (p, tt)) (tt, (q, tt)) → by q.now ≡ by p.now)
    → ChangesEach g f xs ys → map by ys ≡ map by xs
kept_each g f by [] [] same kept each = refl
kept_each g f by [] (y ∷ ys) same kept each = absurd (omega (arith, same))
kept_each g f by (x ∷ xs) ys same kept each =
    ext_get_or (by x) (map by ys) (map by (x ∷ xs)) (length-map ys by ∙ (same ∙ sym (length-map (x ∷ xs) by))) there where
      there : (i : ℕ) → i < length (map by ys) → get_or (map by ys) i (by x) ≡ get_or (map by (x ∷ xs)) i (by x)
      there i lt =
          let many = length-map ys by in
          let within : i < length ys = omega (arith, lt, many) in
          let before : i < length (x ∷ xs) = omega (arith, within, same) in
          let it = (each i x before).1 in
          get_or-map by ys i x (by x) within
          ∙ (ap by (sym it.left) ∙ (kept i it.argument it.after_call it.call ∙ ap by it.argument_is))
          ∙ sym (get_or-map by (x ∷ xs) i x (by x) before)

-- where each thread has its text, the texts are those
told_all : {S V X : Type 0} (E : Type 0) (R : S → X → Type 0) (f : V → X) (ss : List S) (vs : List V)
    → AllZip (λ s t. IfOk t (λ v. R s (f v))) ss (map {B = Result V E} Ok vs) → AllZip R ss (map f vs)
told_all E R f [] [] all = tt
told_all E R f [] (v ∷ vs) all = absurd all
told_all E R f (s ∷ ss) [] all = absurd all
told_all E R f (s ∷ ss) (v ∷ vs) all = (all.0, told_all E R f ss vs all.1)

pub texts_told : {S V X E : Type 0} (R : S → X → Type 0) (f : V → X) (jobs shares : List S) (vs : List V) (told : List (Result V E))
    → jobs ≡ shares → told ≡ map Ok vs → AllZip (λ s t. IfOk t (λ v. R s (f v))) jobs told → AllZip R shares (map f vs)
texts_told {E = E} R f jobs shares vs told same all each =
    subst (λ ss. AllZip R ss (map f vs)) same
    (told_all E R f jobs vs (subst (λ ts. AllZip (λ s t. IfOk t (λ v. R s (f v))) jobs ts) all each))

-- ---- the text of a thread

-- one more call was answered
pub answered_more : (actors thread : ℕ) (calls : List ForkedCall) (text : List ℕ) (forked : ForkedCall) (told : Told)
    → IsThreadText actors (thread, calls) text → IsAnswered actors forked told
    → IsThreadText actors (thread, calls ++ forked ∷ []) (text ++ answer_line thread told)
answered_more actors thread calls text forked told so is = (
  so.0 ++ told ∷ [],
  all_zipped_more (IsAnswered actors) calls so.0 forked told so.1 is,
  ap (λ t. t ++ answer_line thread told) so.2
      ∙ sym (flat_map-append (answer_line thread) so.0 (told ∷ [])
      ∙ ap (λ t. flat_map (answer_line thread) so.0 ++ t) (append-nil (answer_line thread told))),
)

-- ---- a slice that was lent

-- a vector has its elements again
pub put_back : {A B : Type 0} (by : A → B) (n : ℕ) (xs items : List A) → map by xs ≡ map by items → n ≡ length items
    → map by (take n (xs ++ drop (length xs) items)) ≡ map by items
put_back by n xs items same all =
    let as_many : length xs ≡ length items = sym (length-map xs by) ∙ (ap length same ∙ length-map items by) in
    ap (map by) (ap (λ m. take m (xs ++ drop (length xs) items)) (all ∙ sym as_many) ∙ take-append_seam xs _) ∙ same

-- ---- the calls of each thread

-- a call stands at the end of a list
pub list_more : {V : Type 0} (f : V → List ForkedCall) (lists : List V) (i : ℕ) (new old : V) (forked : ForkedCall)
    → i < length lists → i ≡ forked.actor % length lists → get_or lists i old ≡ old → f new ≡ f old ++ forked ∷ []
    → map f (set lists i new) ≡ with_call (map f lists) forked
list_more f lists i new old forked within place was more =
    let thread : i ≡ forked.actor % length (map f lists) = place ∙ ap (λ n. forked.actor % n) (sym (length-map lists f)) in
    let own : f new ≡ get_or (map f lists) i [] ++ forked ∷ [] =
    more ∙ ap (λ own. own ++ forked ∷ []) (ap f (sym was) ∙ sym (get_or-map f lists i old [] within)) in
    map-set f lists i new ∙ ap (λ own. set (map f lists) i own) own
    ∙ ap (λ k. set (map f lists) k (get_or (map f lists) k [] ++ forked ∷ [])) thread

-- with one more call each thread has its own
own_more : (threads thread : ℕ) (calls : List ForkedCall) (forked : ForkedCall) → forked.actor % threads ≡ thread
    → share_of threads (calls ++ forked ∷ []) thread ≡ share_of threads calls thread ++ forked ∷ []
own_more threads thread calls forked same =
    filter-append (is_own threads thread) calls (forked ∷ [])
    ∙ ap (λ (b : Bool). share_of threads calls thread ++ cond b (forked ∷ []) []) (eq-eqb (forked.actor % threads) thread same)

other_same : (threads thread : ℕ) (calls : List ForkedCall) (forked : ForkedCall) → forked.actor % threads ≢ thread
    → share_of threads (calls ++ forked ∷ []) thread ≡ share_of threads calls thread
other_same threads thread calls forked other =
    filter-append (is_own threads thread) calls (forked ∷ [])
    ∙ ap (λ (b : Bool). share_of threads calls thread ++ cond b (forked ∷ []) []) (ne_eqb (forked.actor % threads) thread other)
    ∙ append-nil (share_of threads calls thread)

module _ (threads : ℕ) (calls : List ForkedCall) (forked : ForkedCall) (within : forked.actor % threads < threads) where
  abbrev Own : ℕ
  Own = forked.actor % threads

  abbrev Lists : List (List ForkedCall)
  Lists = shares_of threads calls

  abbrev More : List ForkedCall
  More = get_or Lists Own [] ++ forked ∷ []

  abbrev After : List (List ForkedCall)
  After = shares_of threads (calls ++ forked ∷ [])

  count : length Lists ≡ threads
  count = length-map-range_with_len (share_of threads calls) 0 threads

  share_at : (xs : List ForkedCall) (k : ℕ) → k < threads → get_or (shares_of threads xs) k [] ≡ share_of threads xs k
  share_at xs k less = get_or-map-range_with_len (share_of threads xs) 0 threads k k [] less (omega arith)

  each : (k : ℕ) → k < threads → get_or (set Lists Own More) k [] ≡ get_or After k []
  each k less = by (eqb_tells Own k) where
    by : (((Own == k) ≡ true) × (Own ≡ k)) ⊎ (((Own == k) ≡ false) × (Own ≢ k))
        → get_or (set Lists Own More) k [] ≡ get_or After k []
    by (inl same) =
        subst (λ j. get_or (set Lists Own More) j [] ≡ get_or After j []) same.1
        (get_or-set_same Lists Own More [] (omega (arith, within, count))
        ∙ ap (λ own. own ++ forked ∷ []) (share_at calls Own within)
        ∙ sym (own_more threads Own calls forked refl) ∙ sym (share_at (calls ++ forked ∷ []) Own within))
    by (inr other) =
        get_or-set_other Lists Own k More [] (λ same. other.1 (sym same)) ∙ share_at calls k less
        ∙ sym (other_same threads k calls forked other.1) ∙ sym (share_at (calls ++ forked ∷ []) k less)

  pub shares_more : with_call Lists forked ≡ After
  shares_more =
      ap (λ n. set Lists (forked.actor % n) (get_or Lists (forked.actor % n) [] ++ forked ∷ [])) count
      ∙ ext_get_or [] (set Lists Own More) After
      (length-set Lists Own More ∙ count ∙ sym (length-map-range_with_len (share_of threads (calls ++ forked ∷ [])) 0 threads))
      (λ k less. each k (omega (arith, less, length-set Lists Own More, count)))

-- the same of several calls
pub shares_with : (threads : ℕ) (calls more : List ForkedCall) → 0 < threads
    → with_calls (shares_of threads calls) more ≡ shares_of threads (calls ++ more)
shares_with threads calls [] some = ap (shares_of threads) (sym (append-nil calls))
shares_with threads calls (forked ∷ more) some =
    ap (λ lists. with_calls lists more) (shares_more threads calls forked (mod-lt forked.actor some))
    ∙ shares_with threads (calls ++ forked ∷ []) more some
    ∙ ap (shares_of threads) (append_assoc calls (forked ∷ []) more)

-- one line more behind `fork`
pub shares_behind : (threads : ℕ) (lines : List (List ℕ)) (line : List ℕ) → 0 < threads
    → with_calls (shares_of threads (calls_in lines)) (calls_on line) ≡ shares_of threads (calls_in (lines ++ line ∷ []))
shares_behind threads lines line some =
    shares_with threads (calls_in lines) (calls_on line) some
    ∙ ap (shares_of threads) (sym (flat_map-append calls_on lines (line ∷ []) ∙ ap (λ l. calls_in lines ++ l) (append-nil (calls_on line))))

-- a line that is skipped has no call, and any other has the one that was read
pub calls_skipped : (line : List ℕ) → is_skipped line ≡ true → calls_on line ≡ []
calls_skipped line skipped = ap (λ (b : Bool). cond b [] (call_read (forked_of (words_of line)))) skipped

pub calls_read : (line : List ℕ) (forked : ForkedCall) → is_skipped line ≡ false
    → forked_of (words_of line) ≡ Ok (command.Do forked.actor forked.call) → calls_on line ≡ forked ∷ []
calls_read line forked skipped read =
    ap (λ (b : Bool). cond b [] (call_read (forked_of (words_of line)))) skipped ∙ ap call_read read
