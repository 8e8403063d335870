-- `magic_helpers::bishop_walk`: the kind and the number of each direction.
use Rattle.magic_helpers.proofs.bishop_walk.Given as goal

abbrev pub ghost-ray : goal.ghost-ray
ghost-ray a = (1, 0)

abbrev pub ghost-ray-2 : goal.ghost-ray-2
ghost-ray-2 a = (1, 1)

abbrev pub ghost-ray-3 : goal.ghost-ray-3
ghost-ray-3 a = (1, 2)

abbrev pub ghost-ray-4 : goal.ghost-ray-4
ghost-ray-4 a = (1, 3)
