-- Laws of requests that are served one after another.
use Rattle.std.proofs.Common.{◌≡◌, ◌∙◌, ◌+◌, ◌==◌, ◌^◌, ◌-◌, ◌<◌, ◌++◌, ℕ, Bool, true, false, zero, suc, cond, List, [], ◌∷◌, length, Option, Some, None, ap, arith, refl, subst, sym}
use Rattle.std.specs.Prelude.{IsErrAnd, OnOk, Result, Ok, Err, count_by, min}
use Rattle.std.specs.List.{AllByRecursion, flat_map}
use Rattle.std.proofs.lemmas.Bool.{ne_eqb}
use Rattle.std.proofs.lemmas.List.{append-nil, append_assoc, length-append}
use Rattle.std.proofs.lemmas.List.Concat.{flat_map-append}
use Rattle.std.proofs.lemmas.List.Sums.{sum_by-append}
use Rattle.std.specs.Io.KnownBytes.{Appends, Consumes, IsAtEnd, Keeps}
use Rattle.nv_mount_answers.specs.declared.kept.Time.{Time}
use Rattle.nv_mount_tool.specs.Answered.{IsNewMount, OneMount}
use Rattle.nv_mount_tool.specs.CommandLine.{numbers_of}
use Rattle.nv_mount_tool.specs.Serve.{Attends, IsTimeOf, Served, ServedInTurn, Serves, ServesNext, ServesOne, WaitsOn, counted, is_dropped, written}
use Rattle.nv_mount_tool.specs.declared.command_line.Options.{Options}
use Rattle.nv_mount_tool.specs.declared.serve.Serving.{Serving}

-- ---- results

-- a result that is answered holds what follows of it
pub on_ok : {T E : Type 0} (r : Result T E) (P Q : Type 0) → (P → Q) → OnOk r P → OnOk r Q
on_ok (Ok x) P Q turn h = turn h
on_ok (Err e) P Q turn h = tt

-- what holds anyway holds of a result that is answered
pub on_ok_always : {T E : Type 0} (r : Result T E) (P : Type 0) → P → OnOk r P
on_ok_always (Ok x) P h = h
on_ok_always (Err e) P h = tt

-- a result that is an error holds nothing of what an answer does
pub on_ok_never : {T E : Type 0} (r : Result T E) (P : E → Type 0) (Q : Type 0) → IsErrAnd r P → OnOk r Q
on_ok_never (Ok x) P Q h = absurd h
on_ok_never (Err e) P Q h = tt

-- ---- known bytes

pub keeps_appends : (a b : Option (List ℕ)) → Keeps a b → Appends a b []
keeps_appends None b h = tt
keeps_appends (Some x) None h = h
keeps_appends (Some x) (Some y) h = h ∙ sym (append-nil x)

pub appends_then : (a b c : Option (List ℕ)) (xs ys : List ℕ) → Appends a b xs → Appends b c ys → Appends a c (xs ++ ys)
appends_then None b c xs ys p q = tt
appends_then (Some x) None c xs ys p q = absurd p
appends_then (Some x) (Some y) None xs ys p q = q
appends_then (Some x) (Some y) (Some z) xs ys p q = q ∙ (ap (λ v. v ++ ys) p ∙ append_assoc x xs ys)

pub consumes_then : (a b c : Option (List ℕ)) (xs ys : List ℕ) → Consumes a b xs → Consumes b c ys → Consumes a c (xs ++ ys)
consumes_then None b c xs ys p q = tt
consumes_then (Some x) None c xs ys p q = absurd p
consumes_then (Some x) (Some y) None xs ys p q = q
consumes_then (Some x) (Some y) (Some z) xs ys p q = p ∙ (ap (λ v. xs ++ v) q ∙ sym (append_assoc xs ys z))

pub keeps_consumes : (a b : Option (List ℕ)) → Keeps a b → Consumes a b []
keeps_consumes None b h = tt
keeps_consumes (Some x) None h = h
keeps_consumes (Some x) (Some y) h = sym h

-- ---- counts

mins : (a n m most : ℕ) → min (min (a + n) most + m) most ≡ min (a + (n + m)) most
mins a n m most = omega arith

counted_some : (a m : ℕ) → 0 < m → counted a m ≡ min (a + m) (2 ^ 64 - 1)
counted_some a m h =
    let some : (m == 0) ≡ false = ne_eqb m 0 (λ e. omega arith) in
    ap (λ b. cond b a (min (a + m) (2 ^ 64 - 1))) some

pub counted_more : (a n m : ℕ) → counted (counted a n) m ≡ counted a (n + m)
counted_more a zero m = ap (counted a) (omega arith)
counted_more a (suc n) zero = ap (counted a) (omega arith)
counted_more a (suc n) (suc m) =
    counted_some (counted a (suc n)) (suc m) (omega arith)
    ∙ (ap (λ v. min (v + suc m) (2 ^ 64 - 1)) (counted_some a (suc n) (omega arith))
    ∙ (mins a (suc n) (suc m) (2 ^ 64 - 1) ∙ sym (counted_some a (suc n + suc m) (omega arith))))

-- ---- lists of served requests

all_append : (P : Served → Type 0) (a b : List Served) → AllByRecursion P a → AllByRecursion P b → AllByRecursion P (a ++ b)
all_append P [] b p q = q
all_append P (x ∷ a) b p q = (p.0, all_append P a b p.1 q)

-- times of one kind are of another
all_times : (P Q : Time → Type 0) → ((t : Time) → P t → Q t) → (all : List Served) → AllByRecursion (λ s. P s.now) all → AllByRecursion (λ s. Q s.now) all
all_times P Q turn [] h = tt
all_times P Q turn (x ∷ all) h = (turn x.now h.0, all_times P Q turn all h.1)

-- some are served in turn, and then more
in_turn : (a b : List Served) (old mid new : OneMount) → ServedInTurn old a mid → ServedInTurn mid b new → ServedInTurn old (a ++ b) new
in_turn [] b old mid new p q = subst (λ (m : OneMount). ServedInTurn m b new) p q
in_turn (s ∷ a) b old mid new p q = (p.0, p.1, in_turn a b p.0 mid new p.2 q)

count_append : (a b : List Served) → count_by is_dropped (a ++ b) ≡ count_by is_dropped a + count_by is_dropped b
count_append a b = sum_by-append (λ x. cond (is_dropped x) 1 0) a b

-- the bytes of requests
abbrev requests : List Served → List ℕ
requests = flat_map (λ s. s.request)

-- ---- what is served

-- where nothing changes nothing is served
pub nothing_served : (P : Time → Type 0) (old new : Serving) (before after : Option (List ℕ)) → WaitsOn old new before after
    → Serves P [] old new old.mount before after
nothing_served P old new before after w = record {
  all = [];
  times = tt;
  each = refl;
  cut = append-nil old.stream ∙ sym w.stream;
  replies = keeps_appends before after w.replies;
  answered = w.answered;
  dropped = w.dropped;
}

-- one request
pub one_served : (now : Time) (old new : Serving) (before after : Option (List ℕ)) → ServesOne now old new before after
    → Serves (λ (time : Time). time ≡ now) [] old new new.mount before after
one_served now old new before after s = record {
  all = s.one ∷ [];
  times = (s.time, tt);
  each = (new.mount, s.served, refl);
  cut = append-nil old.stream ∙ (s.cut ∙ ap (λ v. v ++ new.stream) (sym (append-nil s.one.request)));
  replies = subst (λ (v : List ℕ). Appends before after v) (sym (append-nil (written s.one))) s.replies;
  answered = s.answered;
  dropped = s.dropped ∙ once (is_dropped s.one);
}
  where
    once : (t : Bool) → cond t (counted old.dropped 1) old.dropped ≡ counted old.dropped (0 + cond t 1 0)
    once true = refl
    once false = refl

-- the next request, where one is whole
pub next_served : (whole : Bool) (now : Time) (old new : Serving) (before after : Option (List ℕ)) → ServesNext whole now old new before after → whole ≡ true
    → Serves (λ (time : Time). time ≡ now) [] old new new.mount before after
next_served true now old new before after s is = one_served now old new before after s
next_served false now old new before after s is = cc

-- bytes that come behind what waits
pub record Came (bytes : List ℕ) (old new : Serving) : Type 0 where
  pub mount : new.mount ≡ old.mount
  pub stream : new.stream ≡ old.stream ++ bytes
  pub answered : new.answered ≡ old.answered
  pub dropped : new.dropped ≡ old.dropped

pub nil_came : (old new : Serving) → new.mount ≡ old.mount → new.stream ≡ old.stream → new.answered ≡ old.answered → new.dropped ≡ old.dropped → Came [] old new
nil_came old new mount stream answered dropped = record {
  mount = mount;
  stream = stream ∙ sym (append-nil old.stream);
  answered = answered;
  dropped = dropped;
}

keeps_self : (a : Option (List ℕ)) → Keeps a a
keeps_self None = tt
keeps_self (Some x) = refl

-- bytes that come while nothing is served
pub came_served : (P : Time → Type 0) (bytes : List ℕ) (old new : Serving) (before : Option (List ℕ)) → Came bytes old new
    → Serves P bytes old new new.mount before before
came_served P bytes old new before c = record {
  all = [];
  times = tt;
  each = c.mount;
  cut = sym c.stream;
  replies = keeps_appends before before (keeps_self before);
  answered = c.answered;
  dropped = c.dropped;
}

-- requests that are served, and then more
pub served_then : (P : Time → Type 0) (xs ys : List ℕ) (old mid new : Serving) (last : OneMount) (before between after : Option (List ℕ))
    → Serves P xs old mid mid.mount before between → Serves P ys mid new last between after → Serves P (xs ++ ys) old new last before after
served_then P xs ys old mid new last before between after p q = record {
  all = p.all ++ q.all;
  times = all_append (λ s. P s.now) p.all q.all p.times q.times;
  each = in_turn p.all q.all old.mount mid.mount last p.each q.each;
  cut = sym (append_assoc old.stream xs ys) ∙ (ap (λ v. v ++ ys) p.cut ∙ (append_assoc (requests p.all) mid.stream ys
      ∙ (ap (λ v. requests p.all ++ v) q.cut ∙ (sym (append_assoc (requests p.all) (requests q.all) new.stream)
      ∙ ap (λ v. v ++ new.stream) (sym (flat_map-append (λ s. s.request) p.all q.all))))));
  replies = subst (λ (v : List ℕ). Appends before after v) (sym (flat_map-append written p.all q.all))
      (appends_then before between after _ _ p.replies q.replies);
  answered = q.answered ∙ (ap (λ n. counted n (length q.all)) p.answered ∙ (counted_more old.answered (length p.all) (length q.all)
      ∙ ap (counted old.answered) (sym (length-append p.all q.all))));
  dropped = q.dropped ∙ (ap (λ n. counted n (count_by is_dropped q.all)) p.dropped
      ∙ (counted_more old.dropped (count_by is_dropped p.all) (count_by is_dropped q.all)
      ∙ ap (counted old.dropped) (sym (count_append p.all q.all))));
}

-- and then more of what waits
pub served_more : (P : Time → Type 0) (xs : List ℕ) (old mid new : Serving) (last : OneMount) (before between after : Option (List ℕ))
    → Serves P xs old mid mid.mount before between → Serves P [] mid new last between after → Serves P xs old new last before after
served_more P xs old mid new last before between after p q =
    subst (λ (v : List ℕ). Serves P v old new last before after) (append-nil xs) (served_then P xs [] old mid new last before between after p q)

-- requests that are served at times of one kind, told as times of another
pub served_at : (P Q : Time → Type 0) → ((t : Time) → P t → Q t) → (xs : List ℕ) (old new : Serving) (last : OneMount) (before after : Option (List ℕ))
    → Serves P xs old new last before after → Serves Q xs old new last before after
served_at P Q turn xs old new last before after s = record {
  all = s.all;
  times = all_times P Q turn s.all s.times;
  each = s.each;
  cut = s.cut;
  replies = s.replies;
  answered = s.answered;
  dropped = s.dropped;
}

-- requests that are served at a time, which is the fixed one where there is one
pub served_now : (fixed : Option ℕ) (now : Time) (old new : Serving) (last : OneMount) (before after : Option (List ℕ)) → IsTimeOf fixed now
    → Serves (λ (time : Time). time ≡ now) [] old new last before after → Serves (IsTimeOf fixed) [] old new last before after
served_now fixed now old new last before after is =
    served_at (λ (time : Time). time ≡ now) (IsTimeOf fixed) (λ time same. subst (IsTimeOf fixed) (sym same) is) [] old new last before after

-- the mount that they leave under another name
pub served_to : (P : Time → Type 0) (xs : List ℕ) (old new : Serving) (last mount : OneMount) (before after : Option (List ℕ)) → mount ≡ last
    → Serves P xs old new last before after → Serves P xs old new mount before after
served_to P xs old new last mount before after same s = subst (λ (m : OneMount). Serves P xs old new m before after) (sym same) s

-- where no request is whole none is served
pub none_served : (P : Time → Type 0) (whole : Bool) (now : Time) (old new : Serving) (before after : Option (List ℕ)) → ServesNext whole now old new before after
    → whole ≡ false → Serves P [] old new new.mount before after
none_served P false now old new before after s is =
    served_to P [] old new old.mount new.mount before after s.1 (nothing_served P old new before after s.0)
none_served P true now old new before after s is = cc

-- where nothing waits at first and in the end, all that came is requests
pub all_served : (options : Options) (unmounted : Bool) (begun : Time) (came : List ℕ) (old new : Serving) (last : OneMount) (input rest before after : Option (List ℕ))
    → IsTimeOf options.now begun → IsNewMount (numbers_of options) begun old.mount
    → old.stream ≡ [] → (new.stream ≡ []) × (unmounted ≡ false → IsAtEnd rest) → Consumes input rest came
    → Serves (IsTimeOf options.now) came old new last before after → Attends options unmounted input rest before after
all_served options unmounted begun came old new last input rest before after at is start end c s = record {
  first = old.mount;
  begun = begun;
  at = at;
  is_new = is;
  all = s.all;
  last = last;
  times = s.times;
  each = s.each;
  came = subst (λ (v : List ℕ). Consumes input rest v) whole c;
  replies = s.replies;
  end = end.1;
}
  where
    whole : came ≡ requests s.all
    whole = ap (λ v. v ++ came) (sym start) ∙ (s.cut ∙ (ap (λ v. requests s.all ++ v) end.0 ∙ append-nil (requests s.all)))
