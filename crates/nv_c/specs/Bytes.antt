-- Bytes in buffers of a caller.
use Rattle.std.specs.Prelude.{◌≡◌, ◌⊎◌, ℕ, ◌<◌, ◌≤◌, ◌++◌, List, [], ◌∷◌, MatchOption, drop, length, slice_get, take}
use Rattle.std.specs.List.{flat_map}
use Rattle.nv_base.specs.Memory.{out_of_memory}
use Rattle.nv_entry.specs.declared.names.BoundName.{BoundName}
use Rattle.nv_entry.specs.declared.tree.TreeNode.{TreeNode}
use Rattle.nv_c.specs.Numbers.{node_in_copy}
use Rattle.nv_c.specs.Status.{number_of}
use Rattle.nv_c.specs.declared.numbers.NovaNode.{NovaNode}
use Rattle.nv_c.specs.declared.status.TheConstants.{NO_PLACE, SHORT}

-- bytes stand in front of a buffer, and the rest of it stays; or the buffer is too short, and stays. The length is told in both.
abbrev pub IsPut : List ℕ → (status : ℕ) → (old new : List ℕ) → (len : ℕ) → Type 0
IsPut bytes status old new len =
    (len ≡ length bytes) × (
    ((length bytes ≤ length old) × (status ≡ 0) × (new ≡ bytes ++ drop (length bytes) old))
    ⊎ ((length old < length bytes) × (status ≡ SHORT) × (new ≡ old)))

-- as many bytes from an offset on as there are and as the buffer takes
abbrev pub bytes_from : List ℕ → (offset most : ℕ) → List ℕ
bytes_from bytes offset most = take most (drop offset bytes)

-- names, each behind `/`
abbrev pub with_slashes : List (List ℕ) → List ℕ
with_slashes names = flat_map (λ (name : List ℕ). 47 ∷ name) names

-- the text of a path: its names, each behind `/`; `/` for the root
abbrev pub path_text : List (List ℕ) → List ℕ
path_text [] = 47 ∷ []
path_text (name ∷ names) = with_slashes (name ∷ names)

-- the name at a place of a list is put in front of a buffer; or the list has fewer names, and both places of the caller stay
abbrev pub TellsName : List BoundName → (place status : ℕ) → (old new : List ℕ) → (len_old len_new : ℕ) → Type 0
TellsName names place status old new len_old len_new = MatchOption (slice_get names place)
    ((status ≡ NO_PLACE) × (new ≡ old) × (len_new ≡ len_old))
    (λ bound. IsPut bound.name status old new len_new)

-- the text of the path at a place of a tree is put in front of a buffer, or memory is refused; or the tree has fewer nodes
abbrev pub TellsPath : List TreeNode → (place status : ℕ) → (old new : List ℕ) → (len_old len_new : ℕ) → Type 0
TellsPath tree place status old new len_old len_new = MatchOption (slice_get tree place)
    ((status ≡ NO_PLACE) × (new ≡ old) × (len_new ≡ len_old))
    (λ there. IsPut (path_text there.path) status old new len_new
    ⊎ ((status ≡ number_of out_of_memory) × (new ≡ old) × (len_new ≡ len_old)))

-- the node at a place of a tree is told; or the tree has fewer nodes
abbrev pub TellsNode : List TreeNode → (place status : ℕ) → (old new : NovaNode) → Type 0
TellsNode tree place status old new = MatchOption (slice_get tree place)
    ((status ≡ NO_PLACE) × (new ≡ old))
    (λ there. (status ≡ 0) × (new ≡ node_in_copy there.node))

-- bytes of the node at a place of a tree are put in front of a buffer, as many as there are from an offset on, and the rest of it
-- stays; or the tree has fewer nodes
abbrev pub TellsBytes : List TreeNode → (place offset status : ℕ) → (old new : List ℕ) → (count_old count_new : ℕ) → Type 0
TellsBytes tree place offset status old new count_old count_new = MatchOption (slice_get tree place)
    ((status ≡ NO_PLACE) × (new ≡ old) × (count_new ≡ count_old))
    (λ there. let bytes = bytes_from there.node.bytes offset (length old) in
    (status ≡ 0) × (count_new ≡ length bytes) × (new ≡ bytes ++ drop (length bytes) old))
