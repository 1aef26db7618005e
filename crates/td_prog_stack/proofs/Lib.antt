mod Helpers
mod OpenLoops
mod Rooms
mod Statements
mod Blocks
mod Chains
