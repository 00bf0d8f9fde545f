mod Going
mod Lawful
