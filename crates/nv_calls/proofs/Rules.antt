-- The tests of each call, one after another, are the rules of one list.
use Rattle.std.proofs.Common.{◌≡◌, ◌∙◌, ℕ, ◌+◌, ◌*◌, Bool, true, false, cond, List, [], ◌∷◌, ◌++◌, length, Option, Some, None, nat_lt, ap₂, refl, sym}
use Rattle.std.specs.Prelude.{Err, Ok, is_some}
use Rattle.std.proofs.lemmas.Bool.{false≢true}
use Rattle.nv_base.specs.Names.{is_lawful_name}
use Rattle.nv_base.specs.declared.limits.TheConstants.{FILE_PAGES, WRITE_PAGES}
use Rattle.nv_base.specs.declared.node.Kind.{Kind}
use Rattle.nv_base.specs.declared.node.Kind.TheVariants.{File, Dir}
use Rattle.nv_base.specs.declared.node.Mode.{Mode}
use Rattle.nv_base.specs.declared.numbers.Handle.{Handle}
use Rattle.nv_entry.specs.declared.node.NodeCopy.{NodeCopy}
use Rattle.nv_entry.specs.Bytes.{pages_touched}
use Rattle.nv_entry.specs.Tree.{names_of_node}
use Rattle.nv_calls.specs.AllCalls.{early, look_refusal, refusal}
use Rattle.nv_calls.specs.Plain.{same_handle}
use Rattle.nv_calls.specs.Refusals.{Check, and_then, kind_of, lookup, passes, want_directory, want_lawful}
use Rattle.nv_calls.specs.Rules.{Rule, first_rules, first_that_applies, looks_up, rules, second_rules}
use Rattle.nv_calls.specs.calls.Lookup.{lookup_refusal}
use Rattle.nv_calls.specs.calls.Rename.{own_place}
use Rattle.nv_calls.specs.declared.call.Call.{Call}
use Rattle.nv_calls.specs.declared.call.Call.TheVariants as call

module _ (block : ℕ) (nodes : Handle → Option NodeCopy) where
  abbrev IsFirst : Call → Type 0
  IsFirst c = refusal block nodes c ≡ first_that_applies (rules block nodes c)

  -- ---- tests of a handle's kind

  -- of any kind
  stat_first : (handle : Handle) (k : Option Kind) → kind_of (nodes handle) ≡ k → IsFirst (call.Stat handle)
  stat_first handle None e = rw e refl
  stat_first handle (Some kind) e = rw e refl

  mode_first : (handle : Handle) (mode : Mode) (k : Option Kind) → kind_of (nodes handle) ≡ k → IsFirst (call.Mode handle mode)
  mode_first handle mode None e = rw e refl
  mode_first handle mode (Some kind) e = rw e refl

  -- a file
  read_first : (file : Handle) (offset count : ℕ) (k : Option Kind) → kind_of (nodes file) ≡ k → IsFirst (call.Read file offset count)
  read_first file offset count None e = rw e refl
  read_first file offset count (Some File) e = rw e refl
  read_first file offset count (Some Dir) e = rw e refl

  size_first : (file : Handle) (size : ℕ) (k : Option Kind) (big : Bool) → kind_of (nodes file) ≡ k
      → nat_lt (FILE_PAGES * block) size ≡ big → IsFirst (call.Size file size)
  size_first file size None big e f = rw e refl
  size_first file size (Some Dir) big e f = rw e refl
  size_first file size (Some File) true e f = rw (e, f) refl
  size_first file size (Some File) false e f = rw (e, f) refl

  write_first : (file : Handle) (offset : ℕ) (text : List ℕ) (k : Option Kind) → kind_of (nodes file) ≡ k
      → IsFirst (call.Write file offset text)
  write_first file offset [] None e = rw e refl
  write_first file offset [] (Some Dir) e = rw e refl
  write_first file offset [] (Some File) e = rw e refl
  write_first file offset (byte ∷ rest) None e = rw e refl
  write_first file offset (byte ∷ rest) (Some Dir) e = rw e refl
  write_first file offset (byte ∷ rest) (Some File) e = go _ _ refl refl where
    go : (wide far : Bool) → nat_lt WRITE_PAGES (pages_touched block offset (length (byte ∷ rest))) ≡ wide
        → nat_lt (FILE_PAGES * block) (offset + length (byte ∷ rest)) ≡ far → IsFirst (call.Write file offset (byte ∷ rest))
    go true far f g = rw (e, f) refl
    go false true f g = rw (e, f, g) refl
    go false false f g = rw (e, f, g) refl

  -- a directory
  list_first : (dir : Handle) (k : Option Kind) → kind_of (nodes dir) ≡ k → IsFirst (call.List dir)
  list_first dir None e = rw e refl
  list_first dir (Some File) e = rw e refl
  list_first dir (Some Dir) e = rw e refl

  -- ---- and of a name

  create_first : (dir : Handle) (name : List ℕ) (mode : Mode) (k : Option Kind) (lawful bound : Bool) → kind_of (nodes dir) ≡ k
      → is_lawful_name name ≡ lawful → is_some (lookup nodes dir name) ≡ bound → IsFirst (call.Create dir name mode)
  create_first dir name mode None lawful bound e f g = rw e refl
  create_first dir name mode (Some File) lawful bound e f g = rw e refl
  create_first dir name mode (Some Dir) false bound e f g = rw (e, f) refl
  create_first dir name mode (Some Dir) true true e f g = rw (e, f, g) refl
  create_first dir name mode (Some Dir) true false e f g = rw (e, f, g) refl

  mkdir_first : (dir : Handle) (name : List ℕ) (mode : Mode) (k : Option Kind) (lawful bound : Bool) → kind_of (nodes dir) ≡ k
      → is_lawful_name name ≡ lawful → is_some (lookup nodes dir name) ≡ bound → IsFirst (call.Mkdir dir name mode)
  mkdir_first dir name mode None lawful bound e f g = rw e refl
  mkdir_first dir name mode (Some File) lawful bound e f g = rw e refl
  mkdir_first dir name mode (Some Dir) false bound e f g = rw (e, f) refl
  mkdir_first dir name mode (Some Dir) true true e f g = rw (e, f, g) refl
  mkdir_first dir name mode (Some Dir) true false e f g = rw (e, f, g) refl

  lookup_first : (dir : Handle) (name : List ℕ) (k : Option Kind) (lawful : Bool) (bound : Option Handle) → kind_of (nodes dir) ≡ k
      → is_lawful_name name ≡ lawful → lookup nodes dir name ≡ bound → IsFirst (call.Lookup dir name)
  lookup_first dir name None lawful bound e f g = rw e refl
  lookup_first dir name (Some File) lawful bound e f g = rw e refl
  lookup_first dir name (Some Dir) false bound e f g = rw (e, f) refl
  lookup_first dir name (Some Dir) true None e f g = rw (e, f, g) refl
  lookup_first dir name (Some Dir) true (Some to) e f g = rw (e, f, g) refl

  -- ---- and of what the name leads to

  unlink_first : (dir : Handle) (name : List ℕ) (k : Option Kind) (lawful : Bool) (bound : Option Handle) → kind_of (nodes dir) ≡ k
      → is_lawful_name name ≡ lawful → lookup nodes dir name ≡ bound → IsFirst (call.Unlink dir name)
  unlink_first dir name None lawful bound e f g = rw e refl
  unlink_first dir name (Some File) lawful bound e f g = rw e refl
  unlink_first dir name (Some Dir) false bound e f g = rw (e, f) refl
  unlink_first dir name (Some Dir) true None e f g = rw (e, f, g) refl
  unlink_first dir name (Some Dir) true (Some to) e f g = go (kind_of (nodes to)) refl where
    go : (k : Option Kind) → kind_of (nodes to) ≡ k → IsFirst (call.Unlink dir name)
    go None h = rw (e, f, g, h) refl
    go (Some File) h = rw (e, f, g, h) refl
    go (Some Dir) h = rw (e, f, g, h) refl

  rmdir_first : (dir : Handle) (name : List ℕ) (k : Option Kind) (lawful : Bool) (bound : Option Handle) → kind_of (nodes dir) ≡ k
      → is_lawful_name name ≡ lawful → lookup nodes dir name ≡ bound → IsFirst (call.Rmdir dir name)
  rmdir_first dir name None lawful bound e f g = rw e refl
  rmdir_first dir name (Some File) lawful bound e f g = rw e refl
  rmdir_first dir name (Some Dir) false bound e f g = rw (e, f) refl
  rmdir_first dir name (Some Dir) true None e f g = rw (e, f, g) refl
  rmdir_first dir name (Some Dir) true (Some to) e f g =
      go (kind_of (nodes to)) (nat_lt 0 (length (names_of_node (nodes to)))) refl refl where
        go : (k : Option Kind) (some : Bool) → kind_of (nodes to) ≡ k → nat_lt 0 (length (names_of_node (nodes to))) ≡ some
            → IsFirst (call.Rmdir dir name)
        go None some h i = rw (e, f, g, h) refl
        go (Some File) some h i = rw (e, f, g, h) refl
        go (Some Dir) true h i = rw (e, f, g, h, i) refl
        go (Some Dir) false h i = rw (e, f, g, h, i) refl

  -- ---- a rename

  module _ (from : Handle) (old : List ℕ) (to : Handle) (new : List ℕ) where
    abbrev IsFirstHere : Type 0
    IsFirstHere = IsFirst (call.Rename from old to new)

    -- its first name leads to a node, and its second may be bound
    module _ (moved : Handle) (e : kind_of (nodes from) ≡ Some Dir) (f : is_lawful_name old ≡ true)
        (g : lookup nodes from old ≡ Some moved) (h : kind_of (nodes to) ≡ Some Dir) (i : is_lawful_name new ≡ true) where
      replaces : (other : Handle) (k l : Option Kind) → lookup nodes to new ≡ Some other → kind_of (nodes moved) ≡ k
          → kind_of (nodes other) ≡ l → (same : Bool) → same_handle from to ≡ same → own_place from old to new ≡ false → IsFirstHere
      replaces other None l n m o same p own = rw (e, f, g, h, i, n, own, m) refl
      replaces other (Some Dir) l n m o false p own = rw (e, f, g, h, i, n, own, m, p) refl
      replaces other (Some Dir) None n m o true p own = rw (e, f, g, h, i, n, own, m, p, o) refl
      replaces other (Some Dir) (Some kind) n m o true p own = rw (e, f, g, h, i, n, own, m, p, o) refl
      replaces other (Some File) None n m o same p own = rw (e, f, g, h, i, n, own, m, o) refl
      replaces other (Some File) (Some Dir) n m o same p own = rw (e, f, g, h, i, n, own, m, o) refl
      replaces other (Some File) (Some File) n m o same p own = rw (e, f, g, h, i, n, own, m, o) refl

      alone : (k : Option Kind) → lookup nodes to new ≡ None → kind_of (nodes moved) ≡ k → (same : Bool) → same_handle from to ≡ same
          → own_place from old to new ≡ false → IsFirstHere
      alone None n m same p own = rw (e, f, g, h, i, n, own, m) refl
      alone (Some File) n m same p own = rw (e, f, g, h, i, n, own, m) refl
      alone (Some Dir) n m true p own = rw (e, f, g, h, i, n, own, m, p) refl
      alone (Some Dir) n m false p own = rw (e, f, g, h, i, n, own, m, p) refl

      moves : (second : Option Handle) (own : Bool) → lookup nodes to new ≡ second → own_place from old to new ≡ own → IsFirstHere
      moves second true n own = rw (e, f, g, h, i, own) refl
      moves None false n own = alone (kind_of (nodes moved)) n refl (same_handle from to) refl own
      moves (Some other) false n own =
          replaces other (kind_of (nodes moved)) (kind_of (nodes other)) n refl refl (same_handle from to) refl own

    second_first : (moved : Handle) (l : Option Kind) (lawful : Bool) → kind_of (nodes from) ≡ Some Dir → is_lawful_name old ≡ true
        → lookup nodes from old ≡ Some moved → kind_of (nodes to) ≡ l → is_lawful_name new ≡ lawful → IsFirstHere
    second_first moved None lawful e f g h i = rw (e, f, g, h) refl
    second_first moved (Some File) lawful e f g h i = rw (e, f, g, h) refl
    second_first moved (Some Dir) false e f g h i = rw (e, f, g, h, i) refl
    second_first moved (Some Dir) true e f g h i = moves moved e f g h i (lookup nodes to new) (own_place from old to new) refl refl

    rename_first : (k : Option Kind) (lawful : Bool) (bound : Option Handle) → kind_of (nodes from) ≡ k → is_lawful_name old ≡ lawful
        → lookup nodes from old ≡ bound → IsFirstHere
    rename_first None lawful bound e f g = rw e refl
    rename_first (Some File) lawful bound e f g = rw e refl
    rename_first (Some Dir) false bound e f g = rw (e, f) refl
    rename_first (Some Dir) true None e f g = rw (e, f, g) refl
    rename_first (Some Dir) true (Some moved) e f g = second_first moved (kind_of (nodes to)) (is_lawful_name new) e f g refl refl

  pub by_rules : (c : Call) → IsFirst c
  by_rules (call.Create dir name mode) = create_first dir name mode (kind_of (nodes dir)) _ _ refl refl refl
  by_rules (call.Mkdir dir name mode) = mkdir_first dir name mode (kind_of (nodes dir)) _ _ refl refl refl
  by_rules (call.Write file offset text) = write_first file offset text (kind_of (nodes file)) refl
  by_rules (call.Read file offset count) = read_first file offset count (kind_of (nodes file)) refl
  by_rules (call.Size file size) = size_first file size (kind_of (nodes file)) _ refl refl
  by_rules (call.Mode handle mode) = mode_first handle mode (kind_of (nodes handle)) refl
  by_rules (call.Stat handle) = stat_first handle (kind_of (nodes handle)) refl
  by_rules (call.List dir) = list_first dir (kind_of (nodes dir)) refl
  by_rules (call.Lookup dir name) = lookup_first dir name (kind_of (nodes dir)) _ _ refl refl refl
  by_rules (call.Unlink dir name) = unlink_first dir name (kind_of (nodes dir)) _ _ refl refl refl
  by_rules (call.Rmdir dir name) = rmdir_first dir name (kind_of (nodes dir)) _ _ refl refl refl
  by_rules (call.Rename from old to new) = rename_first from old to new (kind_of (nodes from)) _ _ refl refl refl
  by_rules (call.SnapshotOrCleaner c) = refl

-- ---- the tests of names

module _ (nodes : Handle → Option NodeCopy) where
  -- a name that is followed
  followed : (dir : Handle) (name : List ℕ) (k : Option Kind) (lawful : Bool) (bound : Option Handle) → kind_of (nodes dir) ≡ k
      → is_lawful_name name ≡ lawful → lookup nodes dir name ≡ bound
      → lookup_refusal nodes dir name ≡ first_that_applies (first_rules nodes (call.Lookup dir name))
  followed dir name None lawful bound e f g = rw e refl
  followed dir name (Some File) lawful bound e f g = rw e refl
  followed dir name (Some Dir) false bound e f g = rw (e, f) refl
  followed dir name (Some Dir) true None e f g = rw (e, f, g) refl
  followed dir name (Some Dir) true (Some to) e f g = rw (e, f, g) refl

  name_is : (dir : Handle) (name : List ℕ) → lookup_refusal nodes dir name ≡ first_that_applies (first_rules nodes (call.Lookup dir name))
  name_is dir name = followed dir name (kind_of (nodes dir)) _ _ refl refl refl

  pub looks_by_rules : (c : Call) → looks_up c ≡ true → look_refusal nodes c ≡ first_that_applies (first_rules nodes c)
  looks_by_rules (call.Unlink dir name) looks = name_is dir name
  looks_by_rules (call.Rmdir dir name) looks = name_is dir name
  looks_by_rules (call.Rename from old to new) looks = name_is from old
  looks_by_rules other looks = absurd (false≢true looks)

  second_is : (from : Handle) (old : List ℕ) (to : Handle) (new : List ℕ) (k : Option Kind) (lawful : Bool) → kind_of (nodes to) ≡ k
      → is_lawful_name new ≡ lawful
      → want_directory (kind_of (nodes to)) (want_lawful new passes)
      ≡ first_that_applies (second_rules nodes (call.Rename from old to new))
  second_is from old to new None lawful e f = rw e refl
  second_is from old to new (Some File) lawful e f = rw e refl
  second_is from old to new (Some Dir) false e f = rw (e, f) refl
  second_is from old to new (Some Dir) true e f = rw (e, f) refl

-- rules behind others
pub joined : (l m : List Rule) → first_that_applies (l ++ m) ≡ and_then (first_that_applies l) (first_that_applies m)
joined [] m = refl
joined (r ∷ l) m = go r.applies (joined l m) where
  go : (b : Bool) → first_that_applies (l ++ m) ≡ and_then (first_that_applies l) (first_that_applies m)
      → cond b (Err r.fault) (first_that_applies (l ++ m))
      ≡ and_then (cond b (Err r.fault) (first_that_applies l)) (first_that_applies m)
  go true rest = refl
  go false rest = rest

and_passes : (tests : Check) → tests ≡ and_then tests passes
and_passes (Ok tt) = refl
and_passes (Err fault) = refl

module _ (nodes : Handle → Option NodeCopy) where
  pub early_by_rules : (c : Call) → looks_up c ≡ true
      → early nodes c ≡ first_that_applies (first_rules nodes c ++ second_rules nodes c)
  early_by_rules (call.Unlink dir name) looks =
      name_is nodes dir name ∙ and_passes _ ∙ sym (joined (first_rules nodes (call.Unlink dir name)) (second_rules nodes (call.Unlink dir name)))
  early_by_rules (call.Rmdir dir name) looks =
      name_is nodes dir name ∙ and_passes _ ∙ sym (joined (first_rules nodes (call.Rmdir dir name)) (second_rules nodes (call.Rmdir dir name)))
  early_by_rules (call.Rename from old to new) looks =
      let c = call.Rename from old to new in
      ap₂ and_then (name_is nodes from old) (second_is nodes from old to new (kind_of (nodes to)) _ refl refl)
      ∙ sym (joined (first_rules nodes c) (second_rules nodes c))
  early_by_rules other looks = absurd (false≢true looks)
