-- The nodes of the rules so far; and then behind all of them those of the declarations so far.
use Rattle.std.proofs.Common.{◌≡◌, ◌++◌, IsTrue, map, take, flat_map}
use Rattle.std.specs.List.{list_all}
use Rattle.ec_cone.specs.Growing.{is_new, node_reads, rule_reads, sides_read}
use Rattle.ec_cone.proofs.node.nodes_of.Given as goal

abbrev pub invariant-loop-rule : goal.invariant-loop-rule
invariant-loop-rule l =
    (map node_reads l.nodes.items ≡ map rule_reads (take l.rule-index l.theory.rules)) × IsTrue (list_all is_new l.nodes.items)

abbrev pub invariant-loop-declaration : goal.invariant-loop-declaration
invariant-loop-declaration l =
    (map node_reads l.nodes.items ≡ map rule_reads l.theory.rules ++ flat_map sides_read (take l.declaration-index l.theory.exclusives))
    × IsTrue (list_all is_new l.nodes.items)
