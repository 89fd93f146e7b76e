pub mod AttackEnds
