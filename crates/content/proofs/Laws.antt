-- What is read as good is a good tree, written out. Every good tree, written out, is read as good and read back, and so no two good trees
-- are written alike: each piece puts just itself before the rest that follows it.
use mathlib.Core.List.{[]}
use mathlib.Core.Path.{ap, ◌∙◌, sym}
use lib.ListN.{length}
use Rattle.content.specs.Machine.{start}
use Rattle.content.specs.Grammar.{encode}
use Rattle.content.specs.Tree.{Rest, tree_of}
use Rattle.content.specs.Laws.{Correct, Complete, Unambiguous, ExactlyOneTree, ReadBack, MarksFromTree, LettersFromTree, FieldPositionsFromTree, CharactersAreNoStructure}
use Rattle.content.specs.declared.strip.Values.{Values}
use Rattle.content.proofs.Changes.{no_structure}
use Rattle.content.proofs.Good.{good_tree_tells}
use Rattle.content.proofs.Run.{length_at_fields, run_verdict}
use Rattle.content.proofs.Pieces.{rest_befores, tree_piece}
use Rattle.content.proofs.Trees.{reads_a_tree}

-- Verdict and tree don't go by what items stand for: any values will do.
pub no_values : Values
no_values = record { digits = []; entries = [] }

pub correct : Correct
correct = reads_a_tree

pub complete : Complete
complete t g = run_verdict (encode t) (tree_piece no_values t (good_tree_tells t g)).leads

pub read_back : ReadBack
unfolding tree_of
read_back t g =
    ap (λ (r : Rest). r.lines) (rest_befores start (encode t) ∙ (tree_piece no_values t (good_tree_tells t g)).builds)

pub marks_from_tree : MarksFromTree
marks_from_tree t g = (tree_piece no_values t (good_tree_tells t g)).bears

pub letters_from_tree : LettersFromTree
letters_from_tree t g = (tree_piece no_values t (good_tree_tells t g)).spells

pub field_positions_from_tree : FieldPositionsFromTree
field_positions_from_tree t g = length_at_fields start (encode t) ∙ ap length (letters_from_tree t g)

pub unambiguous : Unambiguous
unambiguous t u g h e = sym (read_back t g) ∙ ap tree_of e ∙ read_back u h

pub exactly_one_tree : ExactlyOneTree
exactly_one_tree s e =
    let c = correct s e in
    (tree_of s, c.0, c.1, λ u g q. unambiguous u (tree_of s) g c.0 (q ∙ sym c.1))

pub characters_are_no_structure : CharactersAreNoStructure
characters_are_no_structure = no_structure
