-- How a cone is found: what reads for which form, what of it is reached, and what is followed.
use Rattle.std.specs.Prelude.{◌≡◌, Bool, not, ◌&&◌, ◌||◌, List, [], ◌∷◌, ◌++◌, map, flat_map, Contains, IsTrue}
use Rattle.std.specs.List.{list_any}
use Rattle.ec_terms.specs.declared.theory.Literal.{Literal}
use Rattle.ec_terms.specs.declared.theory.Rule.{Rule}
use Rattle.ec_terms.specs.declared.theory.Exclusive.{Exclusive}
use Rattle.ec_terms.specs.declared.theory.Theory.{Theory}
use Rattle.ec_cone.specs.declared.source.Source.{Source}
use Rattle.ec_cone.specs.declared.source.Source.TheVariants.{Head, Left, Right}
use Rattle.ec_cone.specs.declared.node.Node.{Node}
use Rattle.ec_cone.specs.Forms.{Form, pattern_form, form_eq}
use Rattle.ec_cone.specs.Cone.{cone_has}

-- a form, and the forms that some source reads for it
pub record Reads : Type 0 where
  pub form : Form
  pub reads : List Form

-- a rule reads the forms of its literals for that of its head
abbrev pub rule_reads : Rule → Reads
rule_reads rule = record { form = pattern_form rule.head; reads = map (λ (literal : Literal). pattern_form literal.prop) rule.literals }

-- each side of an exclusive declaration reads the form of the other
abbrev pub left_reads : Exclusive → Reads
left_reads declaration = record { form = pattern_form declaration.left; reads = pattern_form declaration.right ∷ [] }

abbrev pub right_reads : Exclusive → Reads
right_reads declaration = record { form = pattern_form declaration.right; reads = pattern_form declaration.left ∷ [] }

-- what a source reads
abbrev pub source_reads : Source → Reads
source_reads (Head rule) = rule_reads rule.now
source_reads (Left declaration) = left_reads declaration.now
source_reads (Right declaration) = right_reads declaration.now

-- what both sides of a declaration read
abbrev pub sides_read : Exclusive → List Reads
sides_read declaration = left_reads declaration ∷ right_reads declaration ∷ []

-- what the rules of a theory read, and behind them the sides of its declarations
unfoldable pub theory_reads : Theory → List Reads
theory_reads theory = map rule_reads theory.rules ++ flat_map sides_read theory.exclusives

-- what a node reads
abbrev pub node_reads : Node → Reads
node_reads node = source_reads node.source

-- a node that is reached if it has one of the forms, and as it was else
abbrev pub reached_by : List Form → Node → Node
reached_by forms node = record node { reached = node.reached || list_any (form_eq (node_reads node).form) forms }

-- a node is reached, and not followed yet
abbrev pub is_waiting : Node → Bool
is_waiting node = node.reached && not node.followed

-- a new node is neither
abbrev pub is_new : Node → Bool
is_new node = not node.reached && not node.followed

-- The nodes are those of a theory; what is reached is in the cone of the start; all with the start's form are reached, and all
-- with a form that a followed node reads.
pub record IsGrowing (theory : Theory) (start : Form) (nodes : List Node) : Type 0 where
  pub nodes_of_theory : map node_reads nodes ≡ theory_reads theory
  pub in_cone : (node : Node) → Contains nodes node → IsTrue node.reached → IsTrue (cone_has theory start (node_reads node).form)
  pub started : (node : Node) → Contains nodes node → start ≡ (node_reads node).form → IsTrue node.reached
  pub read : (node other : Node) → Contains nodes node → Contains nodes other → IsTrue node.followed
      → Contains (node_reads node).reads (node_reads other).form → IsTrue other.reached
