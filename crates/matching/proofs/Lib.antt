mod Counts
mod Chains
mod Ranks
mod Stages
mod Walks
mod Entering
