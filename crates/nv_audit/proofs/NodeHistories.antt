-- The nodes of slots, one by one.
use Rattle.std.proofs.Common.{◌≡◌, ℕ, ◌+◌, ◌<◌, List, [], ◌∷◌, ◌++◌, get_or, length, drop, Option, None, Some, ap, sym, ◌∙◌, append_assoc}
use Rattle.std.specs.Option.{option_map}
use Rattle.std.proofs.lemmas.List.{drop_more}
use Rattle.nv_base.specs.declared.node.Kind.{Kind}
use Rattle.nv_entry.specs.Log.{seen}
use Rattle.nv_entry.specs.Stored.{stored}
use Rattle.nv_entry.specs.declared.names.BoundName.{BoundName}
use Rattle.nv_entry.specs.declared.value.When.{When}
use Rattle.nv_audit.specs.Logged.{LoggedValue, node_of, slots_of}
use Rattle.nv_audit.specs.Nodes.{named}
use Rattle.nv_audit.specs.declared.tree.NamedNode.{NamedNode}

-- there is a node
abbrev pub made : ℕ → Kind → List BoundName → NamedNode
made generation kind names = record { generation = generation; kind = kind; names = names }

pub node_told : (when : When) (l : LoggedValue) (kind : Kind) (node : NamedNode)
    → Some kind ≡ (stored l.block (seen when l.log)).kind → node ≡ named l.generation (seen when l.log) kind
    → Some node ≡ node_of when l
node_told when l kind node told own = ap Some own ∙ ap (option_map (named l.generation (seen when l.log))) told

-- there is none
pub none_told : (when : When) (l : LoggedValue) → None ≡ (stored l.block (seen when l.log)).kind → None ≡ node_of when l
none_told when l told = ap (option_map (named l.generation (seen when l.log))) told

-- one more node
pub nodes_more : (when : When) (i : ℕ) (logs : List LoggedValue) (own : LoggedValue) (found : Option NamedNode)
    (old new : List (Option NamedNode))
    → i < length logs → own ≡ get_or logs i own → found ≡ node_of when own → new ≡ old ++ found ∷ []
    → old ++ slots_of when (drop i logs) ≡ slots_of when logs → new ++ slots_of when (drop (i + 1) logs) ≡ slots_of when logs
nodes_more when i logs own found old new lt at is put before =
    let rest : List (Option NamedNode) = slots_of when (drop (i + 1) logs) in
    let more : drop i logs ≡ own ∷ drop (i + 1) logs =
    drop_more logs i own lt ∙ ap (λ (x : LoggedValue). x ∷ drop (i + 1) logs) (sym at) in
    ap (λ (xs : List (Option NamedNode)). xs ++ rest) (put ∙ ap (λ (x : Option NamedNode). old ++ x ∷ []) is)
    ∙ append_assoc old (node_of when own ∷ []) rest
    ∙ ap (λ (xs : List LoggedValue). old ++ slots_of when xs) (sym more)
    ∙ before
