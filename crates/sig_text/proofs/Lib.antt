mod InMemory
mod Taken
