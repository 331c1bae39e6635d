mod Blocks
mod Pushing
mod Representing
mod Wholes
mod Cuts
mod OneLane
